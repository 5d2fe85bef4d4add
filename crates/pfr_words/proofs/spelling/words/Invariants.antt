use Rattle.std.proofs.Common.{◌≡◌, ◌≤◌, ◌+◌, ◌++◌, length}
use Rattle.pfr_words.specs.Words as spec
use Rattle.pfr_words.proofs.spelling.words.Given as goal

abbrev pub invariant-loop-rest : goal.invariant-loop-rest
invariant-loop-rest l =
    (l.found.items ++ spec.words_on l.line (spec.pieces_from 0 l.rest) ≡ spec.words_on 1 (spec.pieces_from 0 l.text))
    × (l.line + length l.rest ≤ 1 + length l.text) × (length l.rest ≤ length l.text)

abbrev pub decreases-loop-rest : goal.decreases-loop-rest
decreases-loop-rest l = length l.rest
