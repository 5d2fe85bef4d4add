use Rattle.std.proofs.Common.{◌≡◌, drop}
use Rattle.pfr_marks.specs.Braces as spec
use Rattle.pfr_marks.proofs.braces.are_closed.Given as goal

abbrev pub invariant-loop-mark : goal.invariant-loop-mark
invariant-loop-mark l = spec.closes l.so_far (drop l.mark-index l.marks) ≡ spec.closes 0 l.marks
