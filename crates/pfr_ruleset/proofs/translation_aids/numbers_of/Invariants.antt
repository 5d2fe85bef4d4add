use Rattle.std.proofs.Common.{◌≡◌, map, take}
use Rattle.pfr_ruleset.specs.TranslationAids.{number_of}
use Rattle.pfr_ruleset.proofs.translation_aids.numbers_of.Given as goal

abbrev pub invariant-loop-rule : goal.invariant-loop-rule
invariant-loop-rule g l = l.numbers.items ≡ map number_of (take l.rule-index l.rules)
