use Rattle.pfr_conf.proofs.TextStays.{says_nothing}
use Rattle.pfr_conf.proofs.laws.blank_lines_and_comments_say_nothing.Goals as goal

pub returns : goal.returns
returns c = says_nothing
