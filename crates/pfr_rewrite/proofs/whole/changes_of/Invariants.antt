use Rattle.std.proofs.Common.{◌≡◌, ◌≤◌, ◌++◌, drop}
use Rattle.pfr_rewrite.specs.Whole as spec
use Rattle.pfr_rewrite.proofs.whole.changes_of.Given as goal

abbrev pub invariant-loop-at : goal.invariant-loop-at
invariant-loop-at l =
    (l.changes ++ spec.changes_from l.given l.known l.context l.passed (drop l.begin l.marks) (drop l.at l.marks) ≡ spec.changes_from l.given l.fn.before spec.before 0 l.marks l.marks)
    × (l.begin ≤ l.at)
