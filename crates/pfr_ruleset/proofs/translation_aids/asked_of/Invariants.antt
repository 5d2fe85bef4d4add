use Rattle.std.proofs.Common.{◌≡◌, map, take}
use Rattle.pfr_ruleset.specs.Criteria.{asked_by_translation}
use Rattle.pfr_ruleset.proofs.translation_aids.asked_of.Given as goal

abbrev pub invariant-loop-rule : goal.invariant-loop-rule
invariant-loop-rule g l = l.asked.items ≡ map asked_by_translation (take l.rule-index l.rules)
