use Rattle.std.proofs.Common.{◌≡◌, ◌++◌, drop}
use Rattle.pfr_prepare.specs.Sources as spec
use Rattle.pfr_prepare.proofs.around.add_all.Given as goal

abbrev pub invariant-loop-source : goal.invariant-loop-source
invariant-loop-source l =
    l.given.entries ++ spec.all_entries l.interfaces l.sources (drop l.source-index l.sources)
    ≡ l.fn.given.entries ++ spec.all_entries l.interfaces l.sources l.sources
