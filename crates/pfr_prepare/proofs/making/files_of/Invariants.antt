use Rattle.std.proofs.Common.{◌≡◌, ◌++◌, drop}
use Rattle.pfr_prepare.specs.Making as spec
use Rattle.pfr_prepare.proofs.making.files_of.Given as goal

abbrev pub invariant-loop-source : goal.invariant-loop-source
invariant-loop-source l = l.files ++ spec.files_of (drop l.source-index l.sources) ≡ spec.files_of l.sources
