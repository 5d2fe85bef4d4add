use Rattle.pfr_rules.proofs.OnceLemmas.{visited_once}
use Rattle.pfr_rules.proofs.laws.a_walk_visits_a_rule_once.Goals as goal

pub returns : goal.returns
returns c = visited_once
