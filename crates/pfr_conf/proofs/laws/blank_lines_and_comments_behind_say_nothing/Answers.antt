use Rattle.pfr_conf.proofs.TextGoesOn.{blank_behind}
use Rattle.pfr_conf.proofs.laws.blank_lines_and_comments_behind_say_nothing.Goals as goal

pub returns : goal.returns
returns c first second a whole = blank_behind first second a whole.0 whole.1
