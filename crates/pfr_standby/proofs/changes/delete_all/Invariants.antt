use Rattle.std.proofs.Common.{◌≡◌, fold, take}
use Rattle.pfr_standby.specs.Standby as spec
use Rattle.pfr_standby.proofs.changes.delete_all.Given as goal

abbrev pub invariant-loop-deletion : goal.invariant-loop-deletion
invariant-loop-deletion l = l.states.entries ≡ fold spec.without_deletion l.fn.states.entries (take l.deletion-index l.deletions)
