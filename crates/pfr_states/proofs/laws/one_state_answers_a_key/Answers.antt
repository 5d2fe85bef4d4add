use Rattle.pfr_states.proofs.LawLemmas.{one_state}
use Rattle.pfr_states.proofs.laws.one_state_answers_a_key.Goals as goal

pub returns : goal.returns
returns c = one_state
