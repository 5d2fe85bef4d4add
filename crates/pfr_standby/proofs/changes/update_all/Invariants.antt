use Rattle.std.proofs.Common.{◌≡◌, fold, take}
use Rattle.pfr_standby.specs.Standby as spec
use Rattle.pfr_standby.proofs.changes.update_all.Given as goal

abbrev pub invariant-loop-update : goal.invariant-loop-update
invariant-loop-update l = l.states.entries ≡ fold spec.with_update l.fn.states.entries (take l.update-index l.updates)
