use Rattle.std.proofs.Common.{◌≡◌, length}
use Rattle.pfr_states.specs.States.{purged}
use Rattle.pfr_states.proofs.indexed.IndexedStates.purge.Given as goal

abbrev pub invariant-loop-state : goal.invariant-loop-state
invariant-loop-state l = purged l.clock l.self ≡ purged l.clock l.initial.self

abbrev pub decreases-loop-state : goal.decreases-loop-state
decreases-loop-state l = length l.self
