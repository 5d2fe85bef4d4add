use Rattle.pfr_commit.proofs.StandbyLemmas.{a_standby_holds_the_states}
use Rattle.pfr_commit.proofs.laws.a_standby_holds_the_states.Goals as goal

pub returns : goal.returns
returns c = a_standby_holds_the_states c.no_change_is_refused.ensures c.every_change_is_of_the_named_state.ensures
