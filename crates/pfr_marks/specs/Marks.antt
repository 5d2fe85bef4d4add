-- The words of a ruleset text, and where they stand.
use Rattle.std.specs.Prelude.{ℕ, ◌+◌, ◌==◌, Bool, false, if◌then◌else◌, List, [], ◌∷◌, ◌++◌, length}
use Rattle.std.specs.Option.{is_some}
use Rattle.std.specs.Str.{bytes_eq}
use Rattle.pfr_words.specs.Words.{newlines, pieces, token_of}
use Rattle.pfr_marks.specs.declared.mark.Place.{Place}
use Rattle.pfr_marks.specs.declared.mark.Mark.{Mark}

-- a mark is this word
abbrev pub is : List ℕ → Mark → Bool
is word mark = bytes_eq mark.piece word

-- the mark at the front is this word
abbrev pub begins_with : List Mark → List ℕ → Bool
begins_with [] word = false
begins_with (mark ∷ marks) word = is word mark

-- the column behind bytes that begin in a column
abbrev pub column_behind : ℕ → List ℕ → ℕ
column_behind column [] = column
column_behind column (b ∷ text) = column_behind (if b == 10 then 1 else column + 1) text

-- the place behind a piece
abbrev pub behind : Place → List ℕ → Place
behind place piece = record {
  offset = place.offset + length piece;
  line = place.line + newlines piece;
  column = column_behind place.column piece;
}

-- a piece that doesn't only separate words
abbrev pub mark_at : Place → List ℕ → List Mark
mark_at place piece = if is_some (token_of piece) then record { start = place; end = behind place piece; piece = piece } ∷ [] else []

-- the marks of pieces, of which the first begins at this place
abbrev pub marks_from : Place → List (List ℕ) → List Mark
marks_from place [] = []
marks_from place (piece ∷ more) = mark_at place piece ++ marks_from (behind place piece) more

abbrev pub beginning : Place
beginning = record { offset = 0; line = 1; column = 1 }

unfoldable pub marks : List ℕ → List Mark
marks text = marks_from beginning (pieces text)
