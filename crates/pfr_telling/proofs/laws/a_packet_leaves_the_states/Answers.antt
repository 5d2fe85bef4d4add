use Rattle.pfr_telling.proofs.HoldingLemmas as lemmas
use Rattle.pfr_telling.proofs.laws.a_packet_leaves_the_states.Goals as goal

pub returns-clause-start : goal.returns-clause-start
returns-clause-start c = lemmas.no_states_are_left

pub returns-clause-next : goal.returns-clause-next
returns-clause-next c = lemmas.a_packet_leaves_the_states
