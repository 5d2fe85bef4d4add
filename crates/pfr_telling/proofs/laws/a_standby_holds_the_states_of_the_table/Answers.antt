use Rattle.pfr_telling.proofs.HoldingLemmas as lemmas
use Rattle.pfr_telling.proofs.laws.a_standby_holds_the_states_of_the_table.Goals as goal

pub returns : goal.returns
returns c = lemmas.a_standby_holds_the_states_of_the_table
