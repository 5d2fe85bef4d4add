-- How many words go with a word that is rewritten.
use Rattle.std.specs.Prelude.{ℕ, ◌+◌, ◌==◌, ◌||◌, Bool, false, not, nat_eq, if◌then◌else◌, List, [], ◌∷◌, drop, codes}
use Rattle.std.specs.List.{starts_with}
use Rattle.pfr_words.specs.Names.{is_among}
use Rattle.pfr_marks.specs.declared.mark.Mark.{Mark}
use Rattle.pfr_marks.specs.Marks.{begins_with, is}
use Rattle.pfr_phrases.specs.declared.lengths.Takes.{Takes}
use Rattle.pfr_phrases.specs.declared.lengths.Takes.TheVariants as takes

-- how many marks there are up to the first sign that closes a group, with that sign and `before` others; none if the
-- line ends first, or another group is opened: no group stands in one of its kind
abbrev pub group_from : ℕ → (opens closes : List ℕ) → List Mark → ℕ
group_from before opens closes [] = 0
group_from before opens closes (mark ∷ marks) =
    if is closes mark then before + 1
    else if is (codes "\n") mark || is opens mark then 0
    else group_from (before + 1) opens closes marks

-- how many marks the group has that the first mark opens
abbrev pub group_len : (opens closes : List ℕ) → List Mark → ℕ
group_len opens closes [] = 0
group_len opens closes (first ∷ marks) = if is opens first then group_from 1 opens closes marks else 0

-- how many ends of lines stand at the front, with those before
abbrev pub newlines_from : ℕ → List Mark → ℕ
newlines_from before [] = before
newlines_from before (mark ∷ marks) = if not (is (codes "\n") mark) then before else newlines_from (before + 1) marks

-- the signs that are no values
abbrev pub signs_of_no_values : List (List ℕ)
signs_of_no_values =
    codes "\n" ∷ codes ")" ∷ codes "}" ∷ codes ">" ∷ codes "," ∷ codes "=" ∷ codes "!" ∷ codes "->" ∷ codes "-" ∷ codes "!="
    ∷ codes "<=" ∷ codes ">=" ∷ codes "<>" ∷ codes "><" ∷ []

unfoldable pub is_no_value : List ℕ → Bool
is_no_value word = is_among signs_of_no_values word

-- how many marks a value has: a word, or a group in brackets, braces or `< >`
abbrev pub value_at : Mark → List Mark → ℕ
value_at first marks =
    if is (codes "(") first then group_len (codes "(") (codes ")") marks
    else if is (codes "{") first then group_len (codes "{") (codes "}") marks
    else if is (codes "<") first then group_len (codes "<") (codes ">") marks
    else if is_no_value first.piece then 0
    else 1

unfoldable pub value_len : List Mark → ℕ
value_len [] = 0
value_len (first ∷ marks) = value_at first (first ∷ marks)

abbrev pub brackets_len : List Mark → ℕ
brackets_len marks = group_len (codes "(") (codes ")") marks

-- a word with the value behind it, which must be there
abbrev pub with_value : ℕ → ℕ
with_value value = if value == 0 then 0 else value + 1

-- a value, and one more behind it
abbrev pub two_values : ℕ → List Mark → ℕ
two_values first marks =
    if first == 0 then 0
    else if value_len (drop first marks) == 0 then 0
    else first + value_len (drop first marks)

-- a number, with the `/` and the number that may be behind it
abbrev pub rate_behind : ℕ → List Mark → ℕ
rate_behind number marks = if begins_with (drop number marks) (codes "/") then two_values (number + 1) marks else number

abbrev pub rate_len : List Mark → ℕ
rate_len marks = if value_len marks == 0 then 0 else rate_behind (value_len marks) marks

-- words in brackets, or a word with a value behind it
abbrev pub setting_len : List Mark → ℕ
setting_len marks = if begins_with marks (codes "(") then value_len marks else two_values (value_len marks) marks

-- a key of a hash: a quoted text, or hexadecimal digits behind `0x`
unfoldable pub is_key : List Mark → Bool
is_key [] = false
is_key (first ∷ marks) = starts_with nat_eq first.piece (codes "\"") || starts_with nat_eq first.piece (codes "0x")

-- how many marks go with the word before `behind`, that word included
unfoldable pub taken_len : Takes → List Mark → ℕ
taken_len takes.Nothing behind = 1
taken_len takes.State behind = if begins_with behind (codes "state") then 2 else 0
taken_len takes.Value behind = with_value (value_len behind)
taken_len takes.Brackets behind = with_value (brackets_len behind)
taken_len takes.MayTakeBrackets behind = 1 + brackets_len behind
taken_len takes.MayTakeGlobal behind = if begins_with behind (codes "global") then 2 else 1
taken_len takes.Rate behind = with_value (rate_len behind)
taken_len takes.Setting behind = with_value (setting_len behind)
taken_len takes.MayTakeKey behind = if is_key behind then 2 else 1
taken_len takes.MayTakeScope behind = if begins_with behind (codes "rule") || begins_with behind (codes "global") then 2 else 1
