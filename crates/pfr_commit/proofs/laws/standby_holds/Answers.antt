use Rattle.pfr_commit.proofs.HoldingLemmas as lemmas
use Rattle.pfr_commit.proofs.laws.standby_holds.Goals as goal

pub returns : goal.returns
returns c = lemmas.standby_holds c.no_change_is_refused.ensures c.every_change_is_of_the_named_state.ensures
