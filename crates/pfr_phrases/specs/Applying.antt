-- The text that changes make of another one.
use Rattle.std.specs.Prelude.{ℕ, zero, suc, ◌+◌, ◌-◌, ◌^◌, ◌==◌, Bool, if◌then◌else◌, min, List, [], ◌∷◌, ◌++◌, take, drop, codes, Option, Some, None}
use Rattle.std.specs.Fmt.{decimal}
use Rattle.pfr_marks.specs.declared.mark.Place.{Place}
use Rattle.pfr_marks.specs.Marks.{beginning}
use Rattle.pfr_phrases.specs.declared.applying.NewText.{NewText}
use Rattle.pfr_phrases.specs.declared.change.Becomes.{Becomes}
use Rattle.pfr_phrases.specs.declared.change.Becomes.TheVariants as becomes
use Rattle.pfr_phrases.specs.declared.change.Change.{Change}
use Rattle.pfr_phrases.specs.declared.change.Text.{Text}
use Rattle.pfr_phrases.specs.declared.change.Words.{Words}
use Rattle.pfr_phrases.specs.declared.change.Words.TheVariants as words

-- the line behind a line; the last that 64 bits count is its own
abbrev pub next_line : ℕ → ℕ
next_line line = min (line + 1) (2 ^ 64 - 1)

-- words as they are written
abbrev pub spelled : Words → List ℕ
spelled words.KeepState = codes "keep state"
spelled words.Return = codes "return"
spelled words.Log = codes "log"
spelled words.Aggressive =
    codes "timeout { tcp.first 30, tcp.opening 5, tcp.established 18000, tcp.closing 60, tcp.finwait 30, tcp.closed 30 }"
spelled words.Conservative =
    codes "timeout { tcp.first 3600, tcp.opening 900, tcp.established 432000, tcp.closing 3600, tcp.finwait 600, tcp.closed 180 }"
spelled words.Satellite =
    codes "timeout { tcp.first 180, tcp.opening 35, tcp.established 86400, tcp.closing 905, tcp.finwait 50, tcp.closed 95 }"

-- a zero behind a dot for each part of an address that a word leaves out, three at most
abbrev pub zeros : ℕ → List ℕ
zeros zero = []
zeros (suc zero) = codes ".0"
zeros (suc (suc zero)) = codes ".0.0"
zeros (suc (suc (suc count))) = codes ".0.0.0"

-- where the first slash of a word stands, or its end
abbrev pub slash_from : ℕ → List ℕ → ℕ
slash_from before [] = before
slash_from before (b ∷ word) = if b == 47 then before else slash_from (before + 1) word

abbrev pub word_with_zeros : ℕ → List ℕ → List ℕ
word_with_zeros count word = let slash = slash_from 0 word in take slash word ++ (zeros count ++ drop slash word)

-- the words that stand for a word
abbrev pub written : Becomes → List ℕ → List ℕ
written becomes.Nothing word = []
written (becomes.Lines count) word = []
written (becomes.Words words) word = spelled words
written (becomes.Number number) word = decimal number
written (becomes.WithZeros count) word = word_with_zeros count word

-- how many ends of lines stand for what goes
abbrev pub lines_of : Becomes → ℕ
lines_of becomes.Nothing = 0
lines_of (becomes.Lines count) = count
lines_of (becomes.Words words) = 0
lines_of (becomes.Number number) = 0
lines_of (becomes.WithZeros count) = 0

-- what stands between two places of a text; nothing if the second isn't behind the first
abbrev pub between : (from to : ℕ) → List ℕ → List ℕ
between from to text = take (to - from) (drop from text)

-- one line, which comes from the first
abbrev pub nothing : NewText
nothing = record { text = []; lines = 1 ∷ [] }

-- the lines that begin in bytes of the other text, of which the first stands on this line
abbrev pub lines_in : ℕ → List ℕ → List ℕ
lines_in line [] = []
lines_in line (b ∷ bytes) = if b == 10 then next_line line ∷ lines_in (next_line line) bytes else lines_in line bytes

-- bytes of the other text more
abbrev pub with_kept : NewText → ℕ → List ℕ → NewText
with_kept made line bytes = record { text = made.text ++ bytes; lines = made.lines ++ lines_in line bytes }

-- the end of a line more, behind which comes a line of the other text
abbrev pub with_line : NewText → ℕ → NewText
with_line made line = record { text = made.text ++ 10 ∷ []; lines = made.lines ++ line ∷ [] }

-- ends of lines more, which stand for a line of the other text and those behind it
abbrev pub with_lines : NewText → (line count : ℕ) → NewText
with_lines made line zero = made
with_lines made line (suc count) = with_lines (with_line made (next_line line)) (next_line line) count

abbrev pub with_words : NewText → List ℕ → NewText
with_words made words = record made { text = made.text ++ words }

abbrev pub with_blank : NewText → Bool → NewText
with_blank made blank = if blank then with_words made (32 ∷ []) else made

-- the lines that begin in a text, each of which stands for this line
abbrev pub same_lines : ℕ → List ℕ → List ℕ
same_lines line [] = []
same_lines line (b ∷ bytes) = if b == 10 then line ∷ same_lines line bytes else same_lines line bytes

abbrev pub with_text : NewText → ℕ → List ℕ → NewText
with_text made line bytes = record { text = made.text ++ bytes; lines = made.lines ++ same_lines line bytes }

-- the text of a change more, if it has one
abbrev pub with_given_text : NewText → ℕ → Option Text → NewText
with_given_text made line None = made
with_given_text made line (Some text) = with_text made line text.bytes

abbrev pub with_given : NewText → Change → NewText
with_given made change = with_given_text made change.finding.place.line change.text

-- what a change writes more, behind what stands in the other text between a place and the change
abbrev pub with_change : List ℕ → NewText → Place → Change → NewText
with_change text made place change =
    let kept = with_kept made place.line (between place.offset change.from text) in
    let given = with_given (with_blank kept change.parted) change in
    let written = with_words given (written change.becomes change.finding.word) in
    with_blank (with_lines written (change.to.line - lines_of change.becomes) (lines_of change.becomes)) change.blank

abbrev pub with_changes : List ℕ → NewText → Place → List Change → NewText
with_changes text made place [] = with_kept made place.line (drop place.offset text)
with_changes text made place (change ∷ changes) = with_changes text (with_change text made place change) change.to changes

-- the text that changes make of a text
unfoldable pub rewritten : List ℕ → List Change → NewText
rewritten text changes = with_changes text nothing beginning changes
