use Rattle.pfr_conf.proofs.TwoTexts.{blank_between}
use Rattle.pfr_conf.proofs.laws.blank_lines_and_comments_between_say_nothing.Goals as goal

pub returns : goal.returns
returns c first blank second a b are =
    let read = are.apart in
    blank_between first blank second a b read.whole.0 read.whole.1 are.ends are.nothing read.says read.other read.follow
