use Rattle.std.proofs.Common.{◌≡◌, ◌++◌, drop}
use Rattle.pfr_faults.proofs.leaving.put_all.Given as goal

abbrev pub invariant-loop-mark : goal.invariant-loop-mark
invariant-loop-mark l = l.words ++ drop l.mark-index l.marks ≡ l.fn.words ++ l.marks
