use Rattle.pfr_sync.proofs.HoldingLemmas as lemmas
use Rattle.pfr_sync.proofs.laws.standby_holds.Goals as goal

pub returns : goal.returns
returns c = lemmas.standby_holds
