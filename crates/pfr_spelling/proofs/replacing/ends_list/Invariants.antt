use Rattle.std.proofs.Common.{◌≡◌, false, drop}
use Rattle.pfr_spelling.specs.Replacing as spec
use Rattle.pfr_spelling.proofs.replacing.ends_list.Given as goal

abbrev pub invariant-loop-mark : goal.invariant-loop-mark
invariant-loop-mark l = spec.ends_list l.ends (drop l.mark-index l.marks) ≡ spec.ends_list false l.marks
