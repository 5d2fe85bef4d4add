use Rattle.std.proofs.Common.{◌≡◌, drop}
use Rattle.pfr_phrases.specs.Lengths as spec
use Rattle.pfr_phrases.proofs.lengths.newlines_len.Given as goal

abbrev pub invariant-loop-before : goal.invariant-loop-before
invariant-loop-before l = spec.newlines_from l.before (drop l.before l.marks) ≡ spec.newlines_from 0 l.marks
