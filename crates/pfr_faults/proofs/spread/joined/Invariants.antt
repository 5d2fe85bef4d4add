use Rattle.std.proofs.Common.{◌≡◌, ◌++◌, drop}
use Rattle.pfr_faults.specs.Spread as spec
use Rattle.pfr_faults.proofs.spread.joined.Given as goal

abbrev pub invariant-loop-mark : goal.invariant-loop-mark
invariant-loop-mark l = l.text ++ spec.joined l.separator (drop l.mark-index l.marks) ≡ spec.joined l.separator l.marks
