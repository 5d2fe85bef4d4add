use Rattle.std.proofs.Common.{◌≡◌, drop}
use Rattle.pfr_faults.specs.Leaving as spec
use Rattle.pfr_faults.proofs.leaving.angle_len.Given as goal

abbrev pub invariant-loop-before : goal.invariant-loop-before
invariant-loop-before l = spec.angle_from l.before (drop l.before l.marks) ≡ spec.angle_from 0 l.marks
