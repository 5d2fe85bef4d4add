use Rattle.pfr_rules.proofs.UnvisitedLemmas.{same_way}
use Rattle.pfr_rules.proofs.laws.a_rule_that_is_not_visited_says_nothing.Goals as goal

pub returns : goal.returns
returns c = same_way
