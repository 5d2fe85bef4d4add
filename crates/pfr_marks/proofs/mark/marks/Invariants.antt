use Rattle.std.proofs.Common.{◌≡◌, ◌≤◌, ◌+◌, ◌++◌, length}
use Rattle.pfr_words.specs.Words.{pieces_from}
use Rattle.pfr_marks.specs.Marks as spec
use Rattle.pfr_marks.proofs.mark.marks.Given as goal

abbrev pub invariant-loop-rest : goal.invariant-loop-rest
invariant-loop-rest l =
    (l.found.items ++ spec.marks_from l.start (pieces_from 0 l.rest) ≡ spec.marks_from spec.beginning (pieces_from 0 l.text))
    × (l.start.offset + length l.rest ≤ length l.text) × (l.start.line + length l.rest ≤ 1 + length l.text) × (l.start.column + length l.rest ≤ 1 + length l.text)

abbrev pub decreases-loop-rest : goal.decreases-loop-rest
decreases-loop-rest l = length l.rest
