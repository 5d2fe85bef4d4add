use Rattle.std.proofs.Common.{◌≡◌, drop}
use Rattle.pfr_phrases.specs.Inet6 as spec
use Rattle.pfr_phrases.proofs.inet6.run_len.Given as goal

abbrev pub invariant-loop-before : goal.invariant-loop-before
invariant-loop-before l = spec.run_from l.before l.next (drop l.before l.marks) ≡ spec.run_from 0 l.fn.at l.marks
