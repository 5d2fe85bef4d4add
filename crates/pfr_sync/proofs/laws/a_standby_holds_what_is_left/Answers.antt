use Rattle.pfr_sync.proofs.StandbyLemmas as lemmas
use Rattle.pfr_sync.proofs.laws.a_standby_holds_what_is_left.Goals as goal

pub returns : goal.returns
returns c = lemmas.a_standby_holds_what_is_left
