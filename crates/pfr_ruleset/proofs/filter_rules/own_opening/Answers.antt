use Rattle.std.proofs.Common.{rules}
use Rattle.pfr_ruleset.proofs.filter_rules.own_opening.Goals as goal

pub returns-else-rule : goal.returns-else-rule
returns-else-rule c = search rules
