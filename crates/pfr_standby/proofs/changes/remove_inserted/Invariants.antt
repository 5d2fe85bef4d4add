use Rattle.std.proofs.Common.{◌≡◌, take}
use Rattle.pfr_standby.proofs.MapLemmas.{without_all}
use Rattle.pfr_standby.proofs.changes.remove_inserted.Given as goal

abbrev pub invariant-loop-insertion : goal.invariant-loop-insertion
invariant-loop-insertion l = l.states.entries ≡ without_all l.fn.states.entries (take l.insertion-index l.insertions)
