use Rattle.pfr_conf.proofs.TextGoesOn.{statements_stay}
use Rattle.pfr_conf.proofs.laws.statements_stay_the_first.Goals as goal

pub returns : goal.returns
returns c first second a b whole = statements_stay first second a b whole.0 whole.1
