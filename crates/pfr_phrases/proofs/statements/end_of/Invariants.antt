use Rattle.std.proofs.Common.{◌≡◌, drop}
use Rattle.pfr_phrases.specs.Statements as spec
use Rattle.pfr_phrases.proofs.statements.end_of.Given as goal

abbrev pub invariant-loop-mark : goal.invariant-loop-mark
invariant-loop-mark l = spec.end_of l.end (drop l.mark-index l.marks) ≡ spec.end_of l.fn.place l.marks
