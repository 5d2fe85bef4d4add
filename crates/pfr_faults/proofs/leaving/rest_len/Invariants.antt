use Rattle.std.proofs.Common.{◌≡◌, drop}
use Rattle.pfr_faults.specs.Leaving as spec
use Rattle.pfr_faults.proofs.leaving.rest_len.Given as goal

abbrev pub invariant-loop-before : goal.invariant-loop-before
invariant-loop-before l = spec.rest_from l.here l.before (drop l.before l.marks) ≡ spec.rest_from l.fn.within 0 l.marks
