use Rattle.std.proofs.Common.{◌≡◌, ◌++◌, drop}
use Rattle.pfr_spelling.specs.Targets as spec
use Rattle.pfr_spelling.proofs.targets.joined.Given as goal

abbrev pub invariant-loop-mark : goal.invariant-loop-mark
invariant-loop-mark l = l.made ++ spec.joined (drop l.mark-index l.marks) ≡ spec.joined l.marks
