use Rattle.pfr_sync.proofs.LawLemmas as lemmas
use Rattle.pfr_sync.proofs.laws.closed_messages_stay.Goals as goal

pub returns : goal.returns
returns c = lemmas.closed_messages_stay
