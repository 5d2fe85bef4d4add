use Rattle.pfr_states.proofs.LawLemmas.{bound_elsewhere}
use Rattle.pfr_states.proofs.laws.states_bound_elsewhere_say_nothing.Goals as goal

pub returns : goal.returns
returns c = λ side key place states. bound_elsewhere side key place states
