use Rattle.std.proofs.Common.{◌≡◌, map, take}
use Rattle.pfr_wording.specs.Wording.{apart}
use Rattle.pfr_wording.proofs.same.rules_apart.Given as goal

abbrev pub invariant-loop-rule : goal.invariant-loop-rule
invariant-loop-rule l = l.made.items ≡ map apart (take l.rule-index l.rules)
