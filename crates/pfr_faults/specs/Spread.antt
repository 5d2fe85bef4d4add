-- A text in which each word stands on a line of its own.
use Rattle.std.specs.Prelude.{ℕ, ◌+◌, ◌-◌, ◌^◌, Bool, nat_le, nat_lt, if◌then◌else◌, min, List, [], ◌∷◌, ◌++◌, length, Option, Some, None}
use Rattle.pfr_words.specs.Words.{newlines}
use Rattle.pfr_marks.specs.declared.mark.Mark.{Mark}
use Rattle.pfr_faults.specs.declared.spread.Separator.{Separator}
use Rattle.pfr_faults.specs.declared.spread.Separator.TheVariants as separator
use Rattle.pfr_faults.specs.declared.spread.Spread.{Spread}

-- what stands behind each word: a backslash and the end of the line, which is a blank, or a blank
abbrev pub bytes_of : Separator → List ℕ
bytes_of separator.LineEnd = 92 ∷ 10 ∷ []
bytes_of separator.Blank = 32 ∷ []

abbrev pub with_separator : Separator → Mark → List ℕ
with_separator between mark = mark.piece ++ bytes_of between

-- words as a text
abbrev pub joined : Separator → List Mark → List ℕ
joined between [] = []
joined between (mark ∷ marks) = with_separator between mark ++ joined between marks

-- longer than the strict reader takes a text
abbrev pub is_too_long : List ℕ → Bool
is_too_long text = nat_lt 1048576 (length text)

-- words as a text in which each stands on a line of its own, or on the line on which it stood if that text is too long
unfoldable pub spread_out : List Mark → Spread
spread_out marks =
    if is_too_long (joined separator.LineEnd marks) then record { text = joined separator.Blank marks; separator = separator.Blank }
    else record { text = joined separator.LineEnd marks; separator = separator.LineEnd }

-- ---- the word on a line

abbrev pub line_behind : (line count : ℕ) → ℕ
line_behind line count = min (line + count) (2 ^ 64 - 1)

-- the line on which the word behind one begins
abbrev pub next_line : Separator → ℕ → Mark → ℕ
next_line between line mark = line_behind (line_behind line (newlines mark.piece)) (newlines (bytes_of between))

abbrev pub is_reached : (line here : ℕ) → Bool
is_reached line here = nat_le line here

-- the first of these words that begins on a line or behind it; the first of them begins on the line `here`, and `before` words stand before it
abbrev pub word_from : Separator → (line here before : ℕ) → List Mark → Option ℕ
word_from between line here before [] = None
word_from between line here before (mark ∷ marks) =
    if is_reached line here then Some before else word_from between line (next_line between here mark) (before + 1) marks
