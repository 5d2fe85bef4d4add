-- The text that splices make of another one, and where its lines come from.
use Rattle.std.specs.Prelude.{ℕ, ◌+◌, ◌-◌, ◌^◌, ◌==◌, Bool, not, if◌then◌else◌, min, List, [], ◌∷◌, ◌++◌, length, take, drop, slice_get, slice_index, codes, Option, Some, None}
use Rattle.pfr_marks.specs.Marks as marks
use Rattle.pfr_marks.specs.declared.mark.Place.{Place}
use Rattle.pfr_include.specs.declared.file.Found.{Found}
use Rattle.pfr_include.specs.declared.splices.Put.{Put}
use Rattle.pfr_include.specs.declared.splices.Put.TheVariants as put
use Rattle.pfr_include.specs.declared.splices.Splice.{Splice}
use Rattle.pfr_include.specs.declared.splicing.Included.{Included}
use Rattle.pfr_include.specs.declared.splicing.Made.{Made}
use Rattle.pfr_include.specs.declared.splicing.Origin.{Origin}
use Rattle.pfr_include.specs.declared.splicing.Spliced.{Spliced}

abbrev pub beginning : Place
beginning = marks.beginning

-- the line behind a line; the last that 64 bits count is its own
abbrev pub next_line : ℕ → ℕ
next_line line = min (line + 1) (2 ^ 64 - 1)

abbrev pub origin_or : Origin → Option Origin → Origin
origin_or own (Some origin) = origin
origin_or own None = own

-- where a line of a text comes from, by the origins of the text's lines; a line without an origin is the file's own
abbrev pub origin_of : List Origin → (file line : ℕ) → Origin
origin_of lines file line = origin_or (record { file = file; line = line }) (slice_get lines (line - 1))

-- what stands between two places of a text; nothing if the second isn't behind the first
abbrev pub between : (from to : ℕ) → List ℕ → List ℕ
between from to text = take (to - from) (drop from text)

-- the last byte ends its line
abbrev pub is_ended : List ℕ → Bool
is_ended text = slice_index text (length text - 1) == 10

-- one line, which comes from `last`
abbrev pub nothing : Origin → List Spliced → Made
nothing last spliced = record { text = []; lines = []; last = last; spliced = spliced }

-- the last line ends, and the line behind it comes from `origin`
abbrev pub with_line : Made → Origin → Made
with_line made origin = record made { lines = made.lines ++ made.last ∷ []; last = origin }

-- the lines that end in these bytes, which stand in a text with these origins, from `line` on
abbrev pub with_lines : Made → List Origin → (file line : ℕ) → List ℕ → Made
with_lines made lines file line [] = made
with_lines made lines file line (b ∷ bytes) =
    if b == 10 then with_lines (with_line made (origin_of lines file (next_line line))) lines file (next_line line) bytes
    else with_lines made lines file line bytes

-- such bytes more
abbrev pub with_kept : Made → List Origin → (file line : ℕ) → List ℕ → Made
with_kept made lines file line bytes = with_lines (record made { text = made.text ++ bytes }) lines file line bytes

-- the end of a line more; the line behind it comes from `origin`
abbrev pub with_newline : Made → Origin → Made
with_newline made origin = with_line (record made { text = made.text ++ 10 ∷ [] }) origin

abbrev pub first_of : ℕ → Origin
first_of file = record { file = file; line = 1 }

abbrev pub with_end : Made → Bool → Origin → Made
with_end made ended origin = if not ended then with_newline made origin else made

-- the text of a file more, and the end of its last line if that has none
abbrev pub with_text : Made → ℕ → List ℕ → Made
with_text made file text = with_end (with_kept (record made { last = first_of file }) [] file 1 text) (is_ended text) (first_of file)

abbrev pub with_last : Made → Origin → Made
with_last made origin = record made { last = origin }

-- the text of a file more, if it has any; the line behind it comes from `origin`
abbrev pub with_file : Made → Found → Origin → Made
with_file made found origin = with_last (if length found.text == 0 then made else with_text made found.number found.text) origin

abbrev pub with_words : Made → List ℕ → Made
with_words made words = record made { text = made.text ++ words }

-- the text of a file more as rules in braces; the lines of the braces come from `origin`
abbrev pub with_rules : Made → Found → Origin → Made
with_rules made found origin =
    with_words (with_file (with_newline (with_words made (codes " {")) origin) found origin) (codes "}")

-- a file stands in the place of a statement
abbrev pub with_note : Made → Origin → (column file : ℕ) → Made
with_note made origin column file = record made { spliced = made.spliced ++ record { origin = origin; column = column; file = file } ∷ [] }

abbrev pub with_put_of : Made → (statement origin : Origin) → ℕ → Put → Made
with_put_of made statement origin column put.Nothing = made
with_put_of made statement origin column (put.File found) = with_file (with_note made statement column found.number) found origin
with_put_of made statement origin column (put.Rules found) = with_rules (with_note made statement column found.number) found origin

-- what a splice puts more; the splice was found in a text with these origins
abbrev pub with_put : Made → List Origin → Splice → Made
with_put made lines splice =
    with_put_of made (origin_of lines 0 splice.statement.line) (origin_of lines 0 splice.start.line) splice.statement.column splice.put

-- a splice more, behind what stands in the other text between a place and the splice
abbrev pub with_splice : List ℕ → List Origin → Made → Place → Splice → Made
with_splice text lines made place splice =
    with_put (with_kept made lines 0 place.line (between place.offset splice.start.offset text)) lines splice

abbrev pub with_splices : List ℕ → List Origin → Made → Place → List Splice → Made
with_splices text lines made place [] = with_kept made lines 0 place.line (drop place.offset text)
with_splices text lines made place (splice ∷ splices) = with_splices text lines (with_splice text lines made place splice) splice.end splices

-- the last line's origin stands behind the others
abbrev pub finished : Made → Included
finished made = record { text = made.text; lines = made.lines ++ made.last ∷ []; spliced = made.spliced }

-- the ruleset itself: its lines come from itself
unfoldable pub itself : List ℕ → Included
itself text = finished (with_kept (nothing (first_of 0) []) [] 0 1 text)

-- the text that splices make of a text
unfoldable pub after : Included → List Splice → Included
after before splices =
    finished (with_splices before.text before.lines (nothing (origin_of before.lines 0 1) before.spliced) beginning splices)
