-- The names of tables, and the names that are written for them.
use Rattle.std.specs.Prelude.{ℕ, suc, ◌+◌, ◌-◌, ◌^◌, ◌==◌, ◌&&◌, ◌||◌, Bool, false, not, nat_le, nat_lt, if◌then◌else◌, min, List, [], ◌∷◌, ◌++◌, length, map, take, codes, Option, Some, None}
use Rattle.std.specs.Char.{is_ascii_alphanumeric}
use Rattle.std.specs.Fmt.{decimal}
use Rattle.std.specs.Str.{bytes_eq}
use Rattle.pfr_words.specs.Names.{is_name}
use Rattle.pfr_marks.specs.declared.mark.Mark.{Mark}
use Rattle.pfr_marks.specs.Marks.{is}
use Rattle.pfr_spelling.specs.declared.tables.Table.{Table}
use Rattle.pfr_spelling.specs.Macros.{is_plain}

-- a name in `< >`
abbrev pub is_table : List Mark → Bool
is_table (first ∷ name ∷ last ∷ marks) = is (codes "<") first && is_plain name.piece && is (codes ">") last
is_table _ = false

abbrev pub name_byte : ℕ → ℕ
name_byte byte = if is_ascii_alphanumeric byte then byte else 95

-- a name with `_` for bytes other than letters and digits, cut to 31 bytes
abbrev pub plain_name : List ℕ → List ℕ
plain_name name = map name_byte (take 31 name)

-- the place of a name among tables, or how many there are
abbrev pub place_from : ℕ → List Table → List ℕ → ℕ
place_from before [] name = before
place_from before (table ∷ tables) name = if bytes_eq table.name name then before else place_from (before + 1) tables name

-- how many tables have `plain` as their plain name
abbrev pub alike : List Table → List ℕ → ℕ
alike [] plain = 0
alike (table ∷ tables) plain = if bytes_eq table.plain plain then suc (alike tables plain) else alike tables plain

abbrev pub table_by : List Table → List Mark → List Table
table_by tables (first ∷ name ∷ marks) =
    if nat_lt (place_from 0 tables name.piece) (length tables) then []
    else record { name = name.piece; plain = plain_name name.piece } ∷ []
table_by tables _ = []

-- a new name at the front of marks, of the first 1000
abbrev pub table_in : List Table → List Mark → List Table
table_in tables marks = if not (is_table marks) || nat_le 1000 (length tables) then [] else table_by tables marks

abbrev pub tables_from : List Table → List Mark → List Table
tables_from tables [] = tables
tables_from tables (mark ∷ marks) = tables_from (tables ++ table_in tables (mark ∷ marks)) marks

-- the front of a name with a number
abbrev pub numbered : List ℕ → ℕ → List ℕ
numbered plain number = (take 24 plain ++ 95 ∷ []) ++ decimal number

-- a name, if a table may have it and it is the plain name of at most `most` tables
abbrev pub if_free : List Table → ℕ → List ℕ → Option (List ℕ)
if_free tables most name = if is_name name && nat_le (alike tables name) most then Some name else None

abbrev pub numbered_name : List Table → (name plain : List ℕ) → Option (List ℕ)
numbered_name tables name plain = if_free tables 0 (numbered plain (min (place_from 0 tables name + 1) (2 ^ 64 - 1)))

-- for a table that only a macro's value names: if no table of the text has that name, and all tables are known
abbrev pub other_name : List Table → List ℕ → Option (List ℕ)
other_name tables plain = if nat_le 1000 (length tables) then None else if_free tables 0 plain

-- a name of a table of the text
abbrev pub is_named : List Table → List ℕ → Bool
is_named tables name = not (place_from 0 tables name == length tables)

-- a table's plain name, if no other table has it, else the name with its number
abbrev pub text_name : List Table → (name plain : List ℕ) → Option (List ℕ)
text_name tables name plain = if is_name plain && nat_le (alike tables plain) 1 then Some plain else numbered_name tables name plain

-- the name that is written for a name that a table may not have here
unfoldable pub new_name : List Table → List ℕ → Option (List ℕ)
new_name tables name = if is_named tables name then text_name tables name (plain_name name) else other_name tables (plain_name name)
