use Rattle.std.proofs.Common.{◌≡◌, ◌≤◌, ◌+◌, ◌++◌, length, take, drop}
use Rattle.pfr_words.specs.Words as spec
use Rattle.pfr_words.proofs.braces.close_braces.Given as goal

abbrev pub invariant-loop-at : goal.invariant-loop-at
invariant-loop-at l =
    (l.words ≡ take l.at l.fn.words ++ spec.with_braces (drop l.at l.fn.words))
    × (l.closers ≡ spec.closers (drop l.at l.fn.words))
    × (l.at + l.closers ≤ length l.fn.words) × (length l.words ≡ length l.fn.words)

abbrev pub decreases-loop-at : goal.decreases-loop-at
decreases-loop-at l = l.at
