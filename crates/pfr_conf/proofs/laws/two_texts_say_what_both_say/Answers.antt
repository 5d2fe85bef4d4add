use Rattle.pfr_conf.proofs.TwoTexts.{statements_of_both}
use Rattle.pfr_conf.proofs.laws.two_texts_say_what_both_say.Goals as goal

pub returns : goal.returns
returns c first second a b are = statements_of_both first second a b are.whole.0 are.whole.1 are.says are.other are.follow
