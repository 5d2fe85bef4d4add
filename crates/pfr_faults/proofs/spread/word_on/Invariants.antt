use Rattle.std.proofs.Common.{◌≡◌, drop}
use Rattle.pfr_faults.specs.Spread as spec
use Rattle.pfr_faults.proofs.spread.word_on.Given as goal

abbrev pub invariant-loop-before : goal.invariant-loop-before
invariant-loop-before l = spec.word_from l.separator l.line l.here l.before (drop l.before l.marks) ≡ spec.word_from l.separator l.line 1 0 l.marks
