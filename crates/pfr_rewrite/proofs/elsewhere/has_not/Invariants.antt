use Rattle.std.proofs.Common.{◌≡◌, drop}
use Rattle.pfr_rewrite.specs.Elsewhere as spec
use Rattle.pfr_rewrite.proofs.elsewhere.has_not.Given as goal

abbrev pub invariant-loop-mark : goal.invariant-loop-mark
invariant-loop-mark l = spec.has_not (drop l.mark-index l.marks) ≡ spec.has_not l.marks
