use Rattle.pfr_ruleset.proofs.NumberLemmas.{AreFollowedBelow}
use Rattle.pfr_ruleset.proofs.translation_aids.number_breaks.Given as goal

abbrev pub invariant-loop-place : goal.invariant-loop-place
invariant-loop-place l = AreFollowedBelow l.place l.numbers l.breaks.items
