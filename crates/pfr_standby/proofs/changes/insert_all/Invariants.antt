use Rattle.std.proofs.Common.{◌≡◌, fold, take}
use Rattle.pfr_standby.specs.Standby as spec
use Rattle.pfr_standby.proofs.changes.insert_all.Given as goal

abbrev pub invariant-loop-count : goal.invariant-loop-count
invariant-loop-count l = l.states.entries ≡ fold spec.with_insertion l.fn.states.entries (take l.count l.insertions)
