use Rattle.std.proofs.Common.{◌≡◌, drop}
use Rattle.pfr_include.specs.Statements as spec
use Rattle.pfr_include.proofs.statements.end_of_line.Given as goal

abbrev pub invariant-loop-mark : goal.invariant-loop-mark
invariant-loop-mark l = spec.end_from l.depth l.end (drop l.mark-index l.marks) ≡ spec.end_from 0 l.fn.place l.marks
