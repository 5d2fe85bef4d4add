use Rattle.std.proofs.Common.{◌≡◌, map, take}
use Rattle.pfr_ruleset.specs.Criteria.{asked_by}
use Rattle.pfr_ruleset.proofs.filter_rules.asked_of.Given as goal

abbrev pub invariant-loop-rule : goal.invariant-loop-rule
invariant-loop-rule l = l.asked.items ≡ map asked_by (take l.rule-index l.rules)
