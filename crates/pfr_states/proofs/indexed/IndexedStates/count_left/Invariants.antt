use Rattle.std.proofs.Common.{◌≡◌, ◌+◌, length}
use Rattle.pfr_states.specs.States.{count_of_rule, purged}
use Rattle.pfr_states.proofs.WalkLemmas.{from}
use Rattle.pfr_states.proofs.indexed.IndexedStates.count_left.Given as goal

abbrev pub invariant-loop-next : goal.invariant-loop-next
invariant-loop-next l = l.count + count_of_rule l.rule.0 (purged l.clock (from l.self l.next)) ≡ count_of_rule l.rule.0 (purged l.clock l.self)

abbrev pub decreases-loop-next : goal.decreases-loop-next
decreases-loop-next l = length (from l.self l.next)
