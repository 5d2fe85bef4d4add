use Rattle.std.proofs.Common.{◌≡◌, [], drop}
use Rattle.pfr_spelling.specs.Macros as spec
use Rattle.pfr_spelling.proofs.macros.value_in.Given as goal

abbrev pub invariant-loop-mark : goal.invariant-loop-mark
invariant-loop-mark l = spec.value_from l.macros l.value (drop l.mark-index l.marks) ≡ spec.value_from l.macros [] l.marks
