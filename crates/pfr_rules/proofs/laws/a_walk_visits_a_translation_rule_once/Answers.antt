use Rattle.pfr_rules.proofs.OnceLemmas.{translation_visited_once}
use Rattle.pfr_rules.proofs.laws.a_walk_visits_a_translation_rule_once.Goals as goal

pub returns : goal.returns
returns c = translation_visited_once
