use Rattle.std.proofs.Common.{◌≡◌, take}
use Rattle.pfr_standby.specs.Bound as bound
use Rattle.pfr_standby.proofs.changes.greatest_of.Given as goal

abbrev pub invariant-loop-insertion : goal.invariant-loop-insertion
invariant-loop-insertion l = l.greatest ≡ bound.greatest_of l.fn.number (take l.insertion-index l.insertions)
