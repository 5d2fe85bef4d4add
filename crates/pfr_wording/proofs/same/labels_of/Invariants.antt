use Rattle.std.proofs.Common.{◌≡◌, map, take}
use Rattle.std.specs.Option.{option_map}
use Rattle.pfr_ruleset.specs.Rulesets.{label_at}
use Rattle.pfr_wording.proofs.same.labels_of.Given as goal

abbrev pub invariant-loop-rule : goal.invariant-loop-rule
invariant-loop-rule l =
    map (option_map (λ label. label.now)) l.labels.items ≡ map (λ rule. label_at l.ruleset.labels rule.label) (take l.rule-index l.rule-items)
