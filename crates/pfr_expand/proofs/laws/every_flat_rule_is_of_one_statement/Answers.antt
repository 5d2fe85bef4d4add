use Rattle.pfr_expand.proofs.RulesetLemmas.{rules_of}
use Rattle.pfr_expand.proofs.laws.every_flat_rule_is_of_one_statement.Goals as goal

pub returns : goal.returns
returns c = rules_of
