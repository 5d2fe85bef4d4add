-- The marks of a text one by one.
use Rattle.std.proofs.Common.{◌≡◌, ◌≤◌, ℕ, List, ◌++◌, length, take, drop}
use Rattle.std.proofs.lemmas.List.{append_assoc}
use Rattle.pfr_words.specs.Words.{piece_len, pieces_from}
use Rattle.pfr_words.proofs.PieceLemmas.{first_piece}
use Rattle.pfr_marks.specs.declared.mark.Mark.{Mark}
use Rattle.pfr_marks.specs.declared.mark.Place.{Place}
use Rattle.pfr_marks.specs.Marks.{behind, mark_at, marks_from}

-- one piece more
pub next_mark : (text : List ℕ) (place : Place) (found : List Mark) → 1 ≤ length text → 1 ≤ piece_len text
    → (found ++ mark_at place (take (piece_len text) text))
    ++ marks_from (behind place (take (piece_len text) text)) (pieces_from 0 (drop (piece_len text) text))
    ≡ found ++ marks_from place (pieces_from 0 text)
next_mark text place found some moves = rw (first_piece text some moves) (append_assoc found _ _)
