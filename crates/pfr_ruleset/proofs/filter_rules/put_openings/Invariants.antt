use Rattle.std.proofs.Common.{◌≡◌, ◌+◌, ◌++◌, length, drop}
use Rattle.pfr_ruleset.specs.Places as spec
use Rattle.pfr_ruleset.proofs.filter_rules.put_openings.Given as goal

abbrev pub invariant-loop-rule : goal.invariant-loop-rule
invariant-loop-rule l =
    (l.openings.items ++ spec.own_openings (length l.openings.items) (drop l.rule-index l.rules) ≡ l.fn.openings.items ++ spec.own_openings (length l.fn.openings.items) l.rules)
    × (length l.openings.items ≡ length l.fn.openings.items + l.rule-index)
