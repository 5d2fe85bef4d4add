use Rattle.std.proofs.Common.{◌≡◌, drop}
use Rattle.pfr_faults.specs.Faults as spec
use Rattle.pfr_faults.proofs.faults.first_on.Given as goal

abbrev pub invariant-loop-mark : goal.invariant-loop-mark
invariant-loop-mark l = spec.first_on l.line (drop l.mark-index l.marks) ≡ spec.first_on l.line l.marks
