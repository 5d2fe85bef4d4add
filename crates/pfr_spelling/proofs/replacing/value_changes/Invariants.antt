use Rattle.std.proofs.Common.{◌≡◌, ◌++◌, drop}
use Rattle.pfr_spelling.specs.Replacing as spec
use Rattle.pfr_spelling.proofs.replacing.value_changes.Given as goal

abbrev pub invariant-loop-at : goal.invariant-loop-at
invariant-loop-at l =
    l.changes ++ spec.value_changes l.given l.known l.context l.passed (drop l.at l.marks) ≡ spec.value_changes l.given l.known l.fn.before 0 l.marks
