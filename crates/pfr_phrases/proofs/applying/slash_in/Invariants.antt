use Rattle.std.proofs.Common.{◌≡◌, drop}
use Rattle.pfr_phrases.specs.Applying as spec
use Rattle.pfr_phrases.proofs.applying.slash_in.Given as goal

abbrev pub invariant-loop-before : goal.invariant-loop-before
invariant-loop-before l = spec.slash_from l.before (drop l.before l.word) ≡ spec.slash_from 0 l.word
