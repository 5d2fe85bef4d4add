use Rattle.pfr_criteria.proofs.PinLemmas.{pins_agree}
use Rattle.pfr_criteria.proofs.laws.pins_agree.Goals as goal

pub returns : goal.returns
returns c = pins_agree
