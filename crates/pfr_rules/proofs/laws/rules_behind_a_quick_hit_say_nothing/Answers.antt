use Rattle.pfr_rules.proofs.BehindLemmas.{same_way}
use Rattle.pfr_rules.proofs.laws.rules_behind_a_quick_hit_say_nothing.Goals as goal

pub returns : goal.returns
returns c = same_way
