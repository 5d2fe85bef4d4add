use Rattle.std.proofs.Common.{◌≡◌}
use Rattle.pfr_states.proofs.indexed.IndexedStates.settle.Given as goal

abbrev pub invariant-loop-turn : goal.invariant-loop-turn
invariant-loop-turn l = l.self ≡ l.fn.self
