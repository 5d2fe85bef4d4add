use Rattle.pfr_criteria.proofs.PinLemmas.{keys_agree}
use Rattle.pfr_criteria.proofs.laws.keys_agree.Goals as goal

pub returns : goal.returns
returns c = keys_agree
