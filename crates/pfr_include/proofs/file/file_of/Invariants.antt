use Rattle.std.proofs.Common.{◌≡◌, drop}
use Rattle.pfr_include.specs.Files as spec
use Rattle.pfr_include.proofs.file.file_of.Given as goal

abbrev pub invariant-loop-before : goal.invariant-loop-before
invariant-loop-before l = spec.file_from l.before l.name (drop l.before l.files) ≡ spec.file_from 0 l.name l.files
