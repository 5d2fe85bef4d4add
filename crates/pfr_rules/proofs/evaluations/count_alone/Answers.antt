use Rattle.pfr_rules.proofs.Tallies.{counted_alone, none_counted}
use Rattle.pfr_rules.proofs.evaluations.count_alone.Goals as goal

pub returns-then-rule-tallies-clause-counts : goal.returns-then-rule-tallies-clause-counts
returns-then-rule-tallies-clause-counts c = (counted_alone c.args.tallies.now c.args.rule c.saturating_add.result c.saturating_add.ensures c.requires).0

pub returns-then-rule-tallies-clause-balances : goal.returns-then-rule-tallies-clause-balances
returns-then-rule-tallies-clause-balances c = (counted_alone c.args.tallies.now c.args.rule c.saturating_add.result c.saturating_add.ensures c.requires).1

pub returns-else-rule-tallies-clause-counts : goal.returns-else-rule-tallies-clause-counts
returns-else-rule-tallies-clause-counts c = none_counted c.args.tallies.now c.args.rule c.if-rule-tallies.false
