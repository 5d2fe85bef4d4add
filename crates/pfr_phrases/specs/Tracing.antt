-- Where the bytes of a text that changes made stand in the other one.
use Rattle.std.specs.Prelude.{ℕ, ◌+◌, ◌-◌, ◌^◌, Bool, nat_le, nat_lt, if◌then◌else◌, min, List, [], ◌∷◌, length, drop, Option, Some, None}
use Rattle.pfr_marks.specs.Marks.{beginning}
use Rattle.pfr_marks.specs.declared.mark.Place.{Place}
use Rattle.pfr_phrases.specs.Applying.{between, nothing, rewritten, with_change}
use Rattle.pfr_phrases.specs.declared.applying.NewText.{NewText}
use Rattle.pfr_phrases.specs.declared.change.Change.{Change}
use Rattle.pfr_phrases.specs.declared.tracing.Piece.{Piece}
use Rattle.pfr_phrases.specs.declared.tracing.Pieced.{Pieced}

-- ---- the pieces of a new text

-- bytes that stand as they stood behind a place, and then what a change writes
abbrev pub piece_before : NewText → List ℕ → Place → Change → Piece
piece_before made text place change = record {
  new = length made.text;
  old = place;
  kept = length (between place.offset change.from text);
  said = change.finding.place;
}

abbrev pub last_piece : NewText → Place → List ℕ → Piece
last_piece made place rest = record { new = length made.text; old = place; kept = length rest; said = place }

abbrev pub pieces_from : List ℕ → NewText → Place → List Change → List Piece
pieces_from text made place [] = last_piece made place (drop place.offset text) ∷ []
pieces_from text made place (change ∷ changes) =
    piece_before made text place change ∷ pieces_from text (with_change text made place change) change.to changes

-- the text that changes make of a text, and its pieces
unfoldable pub traced : List ℕ → List Change → Pieced
traced text changes = record { made = rewritten text changes; pieces = pieces_from text nothing beginning changes }

-- ---- places in the other text

abbrev pub sum : ℕ → ℕ → ℕ
sum a b = min (a + b) (2 ^ 64 - 1)

abbrev pub begins_by : Piece → ℕ → Bool
begins_by piece offset = nat_le piece.new offset

-- the last of these pieces that begins at an offset of the new text, or before it
abbrev pub piece_from : Option Piece → ℕ → List Piece → Option Piece
piece_from found offset [] = found
piece_from found offset (piece ∷ pieces) = piece_from (if begins_by piece offset then Some piece else found) offset pieces

-- a place in the kept bytes of a piece, `ahead` bytes behind its beginning; if its line begins in the piece, its line
-- in the other text is `line`, with the same column
abbrev pub kept_place : Piece → Place → (line ahead : ℕ) → Place
kept_place piece place line ahead =
    if nat_le place.column ahead then record { offset = sum piece.old.offset ahead; line = line; column = place.column }
    else record { offset = sum piece.old.offset ahead; line = piece.old.line; column = sum piece.old.column ahead }

-- a place in a piece; for what a change writes, the place at which the change is said
abbrev pub place_in : Piece → Place → ℕ → Place
place_in piece place line =
    if nat_lt (place.offset - piece.new) piece.kept then kept_place piece place line (place.offset - piece.new) else piece.said

abbrev pub place_by : Option Piece → Place → ℕ → Place
place_by None place line = place
place_by (Some piece) place line = place_in piece place line

-- the place in the other text of a place whose line comes from `line`
abbrev pub old_place : List Piece → Place → ℕ → Place
old_place pieces place line = place_by (piece_from None place.offset pieces) place line
