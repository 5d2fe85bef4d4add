use Rattle.std.proofs.Common.{◌≡◌, ◌++◌, drop}
use Rattle.pfr_remarks.specs.Finding as spec
use Rattle.pfr_remarks.proofs.finding.remarks_of.Given as goal

abbrev pub invariant-loop-at : goal.invariant-loop-at
invariant-loop-at l = l.found ++ spec.remarks_from l.before (drop l.at l.marks) ≡ spec.remarks_from spec.at_first l.marks
