use Rattle.std.proofs.Common.{◌≡◌, map, take}
use Rattle.pfr_wording.specs.Wording.{translation_apart}
use Rattle.pfr_wording.proofs.same.translations_apart.Given as goal

abbrev pub invariant-loop-rule : goal.invariant-loop-rule
invariant-loop-rule g l = l.made.items ≡ map translation_apart (take l.rule-index l.rules)
