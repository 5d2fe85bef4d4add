use Rattle.std.proofs.Common.{◌≡◌, drop}
use Rattle.pfr_rewrite.specs.Adapting as spec
use Rattle.pfr_rewrite.proofs.adapting.unsettled_from.Given as goal

abbrev pub invariant-loop-mark : goal.invariant-loop-mark
invariant-loop-mark l = spec.unsettled_from l.offset (drop l.mark-index l.marks) ≡ spec.unsettled_from l.offset l.marks
