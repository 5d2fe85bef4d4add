use Rattle.std.proofs.Common.{◌≡◌, ◌++◌, drop}
use Rattle.pfr_rewrite.specs.Elsewhere as spec
use Rattle.pfr_rewrite.proofs.elsewhere.said_of.Given as goal

abbrev pub invariant-loop-at : goal.invariant-loop-at
invariant-loop-at l = l.said ++ spec.said_from l.given l.known l.context (drop l.at l.marks) ≡ spec.said_from l.given l.fn.before spec.before l.marks
