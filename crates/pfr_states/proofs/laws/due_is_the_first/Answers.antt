use Rattle.pfr_states.proofs.DueLemmas.{due_first}
use Rattle.pfr_states.proofs.laws.due_is_the_first.Goals as goal

pub returns : goal.returns
returns c = due_first
