use Rattle.pfr_sync.proofs.OnceLemmas as lemmas
use Rattle.pfr_sync.proofs.laws.a_state_is_told_of_once.Goals as goal

pub returns : goal.returns
returns c = lemmas.a_state_is_told_of_once
