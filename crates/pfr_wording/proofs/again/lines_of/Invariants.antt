use Rattle.std.proofs.Common.{◌≡◌, map, take}
use Rattle.pfr_wording.proofs.again.lines_of.Given as goal

abbrev pub invariant-loop-rule : goal.invariant-loop-rule
invariant-loop-rule l = l.lines.items ≡ map (λ rule. rule.line) (take l.rule-index l.rules)
