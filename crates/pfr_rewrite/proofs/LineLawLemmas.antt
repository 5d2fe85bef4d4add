-- Each line of the new text has its line of the other text.
use Rattle.std.proofs.Common.{◌≡◌, ℕ, zero, suc, ◌+◌, ◌-◌, ◌==◌, Bool, true, false, if◌then◌else◌, List, [], ◌∷◌, ◌++◌, arith, length, drop, Option, Some, None, refl}
use Rattle.std.specs.Bool.{⊤}
use Rattle.std.proofs.lemmas.List.{length-append}
use Rattle.pfr_given.specs.declared.entry.Given.{Given}
use Rattle.pfr_words.specs.Words.{newlines}
use Rattle.pfr_words.proofs.LineLemmas.{newlines-append}
use Rattle.pfr_marks.specs.Braces.{are_closed}
use Rattle.pfr_marks.specs.Marks.{beginning, marks}
use Rattle.pfr_marks.specs.declared.mark.Mark.{Mark}
use Rattle.pfr_marks.specs.declared.mark.Place.{Place}
use Rattle.pfr_phrases.specs.Applying.{between, lines_in, lines_of, next_line, nothing, rewritten, same_lines, with_blank, with_change, with_changes, with_given, with_given_text, with_kept, with_line, with_lines, with_words, written}
use Rattle.pfr_phrases.specs.Changing.{change_in}
use Rattle.pfr_phrases.specs.Contexts.{context_behind}
use Rattle.pfr_phrases.specs.declared.applying.NewText.{NewText}
use Rattle.pfr_phrases.specs.declared.change.Change.{Change}
use Rattle.pfr_phrases.specs.declared.change.Found.{Found}
use Rattle.pfr_phrases.specs.declared.change.Text.{Text}
use Rattle.pfr_phrases.specs.declared.context.Context.{Context}
use Rattle.pfr_phrases.proofs.CoverLawLemmas.{CoversIf}
use Rattle.pfr_spelling.specs.Known.{known_behind}
use Rattle.pfr_spelling.specs.declared.known.Known.{Known}
use Rattle.pfr_rewrite.specs.Whole.{before, changes, changes_at, changes_from, found_here, known_before, passed_behind, statement_at}
use Rattle.pfr_rewrite.proofs.FoundLawLemmas.{found_covers}

-- a new text has one line more than its ends of lines
abbrev pub IsLined : NewText → Type 0
IsLined made = length made.lines ≡ newlines made.text + 1

one_line : (test : Bool) (line : ℕ) (bytes : List ℕ) → ((other : ℕ) → length (lines_in other bytes) ≡ newlines bytes)
    → length (if test then next_line line ∷ lines_in (next_line line) bytes else lines_in line bytes)
    ≡ (if test then suc (newlines bytes) else newlines bytes)
one_line true line bytes each = omega (arith, each (next_line line))
one_line false line bytes each = each line

lines_counted : (bytes : List ℕ) (line : ℕ) → length (lines_in line bytes) ≡ newlines bytes
lines_counted [] line = refl
lines_counted (b ∷ bytes) line = one_line (b == 10) line bytes (λ other. lines_counted bytes other)

one_same : (test : Bool) (line : ℕ) (bytes : List ℕ) → length (same_lines line bytes) ≡ newlines bytes
    → length (if test then line ∷ same_lines line bytes else same_lines line bytes) ≡ (if test then suc (newlines bytes) else newlines bytes)
one_same true line bytes same = omega (arith, same)
one_same false line bytes same = same

same_counted : (bytes : List ℕ) (line : ℕ) → length (same_lines line bytes) ≡ newlines bytes
same_counted [] line = refl
same_counted (b ∷ bytes) line = one_same (b == 10) line bytes (same_counted bytes line)

-- as many lines more as ends of lines
lines_more : (lines more text bytes : List ℕ) → length lines ≡ newlines text + 1 → length more ≡ newlines bytes
    → length (lines ++ more) ≡ newlines (text ++ bytes) + 1
lines_more lines more text bytes lined same = omega (arith, length-append lines more, newlines-append text bytes, lined, same)

words_lined : (made : NewText) (words : List ℕ) → IsLined made → newlines words ≡ 0 → IsLined (with_words made words)
words_lined made words lined none = omega (arith, newlines-append made.text words, lined, none)

kept_lined : (made : NewText) (line : ℕ) (bytes : List ℕ) → IsLined made → IsLined (with_kept made line bytes)
kept_lined made line bytes lined = lines_more made.lines (lines_in line bytes) made.text bytes lined (lines_counted bytes line)

given_lined : (made : NewText) (line : ℕ) (given : Option Text) → IsLined made → IsLined (with_given_text made line given)
given_lined made line None lined = lined
given_lined made line (Some text) lined = lines_more made.lines (same_lines line text.bytes) made.text text.bytes lined (same_counted text.bytes line)

line_lined : (made : NewText) (line : ℕ) → IsLined made → IsLined (with_line made line)
line_lined made line lined = lines_more made.lines (line ∷ []) made.text (10 ∷ []) lined refl

lines_lined : (count : ℕ) (made : NewText) (line : ℕ) → IsLined made → IsLined (with_lines made line count)
lines_lined zero made line lined = lined
lines_lined (suc count) made line lined =
    lines_lined count (with_line made (next_line line)) (next_line line) (line_lined made (next_line line) lined)

blank_lined : (made : NewText) (blank : Bool) → IsLined made → IsLined (with_blank made blank)
blank_lined made true lined = words_lined made (32 ∷ []) lined refl
blank_lined made false lined = lined

-- the words that changes write end no line
abbrev pub EndNoLine : List Change → Type 0
EndNoLine [] = ⊤
EndNoLine (change ∷ changes) = (newlines (written change.becomes change.finding.word) ≡ 0) × EndNoLine changes

change_lined : (text : List ℕ) (made : NewText) (place : Place) (change : Change) → IsLined made
    → newlines (written change.becomes change.finding.word) ≡ 0 → IsLined (with_change text made place change)
change_lined text made place change lined none =
    let kept = with_kept made place.line (between place.offset change.from text) in
    let parted = with_blank kept change.parted in
    let given = with_given parted change in
    let words = with_words given (written change.becomes change.finding.word) in
    let lines = with_lines words (change.to.line - lines_of change.becomes) (lines_of change.becomes) in
    blank_lined lines change.blank
    (lines_lined (lines_of change.becomes) words (change.to.line - lines_of change.becomes)
    (words_lined given (written change.becomes change.finding.word)
    (given_lined parted change.finding.place.line change.text
    (blank_lined kept change.parted (kept_lined made place.line (between place.offset change.from text) lined))) none))

changes_lined : (text : List ℕ) (made : NewText) (place : Place) (changes : List Change) → IsLined made → EndNoLine changes
    → IsLined (with_changes text made place changes)
changes_lined text made place [] lined none = kept_lined made place.line (drop place.offset text) lined
changes_lined text made place (change ∷ changes) lined none =
    changes_lined text (with_change text made place change) change.to changes (change_lined text made place change lined none.0) none.1

rewritten_lined : (text : List ℕ) (changes : List Change) → EndNoLine changes → IsLined (rewritten text changes)
unfolding rewritten
rewritten_lined text changes none = changes_lined text nothing beginning changes refl none

-- ---- no word that is written ends a line

with_found : (found : Option Found) (context : Context) (mark : Mark) (marks : List Mark) (changes : List Change)
    → CoversIf context (mark ∷ marks) found
    → EndNoLine changes → EndNoLine (change_in found ++ changes)
with_found None context mark marks changes covers none = none
with_found (Some found) context mark marks changes covers none = (covers.4, none)

with_one : (passed : ℕ) (given : Given) (known : Known) (context : Context) (statement : List Mark) (mark : Mark) (marks : List Mark)
    (changes : List Change)
    → EndNoLine changes → EndNoLine (changes_at given known context passed statement (mark ∷ marks) ++ changes)
with_one zero given known context statement mark marks changes none =
    with_found (found_here given known context statement (mark ∷ marks)) context mark marks changes
    (found_covers given known context statement (mark ∷ marks)) none
with_one (suc passed) given known context statement mark marks changes none = none

none_from : (given : Given) (known : Known) (context : Context) (passed : ℕ) (statement marks : List Mark)
    → EndNoLine (changes_from given known context passed statement marks)
none_from given known context passed statement [] = tt
none_from given known context passed statement (mark ∷ marks) =
    let here = statement_at context statement (mark ∷ marks) in
    with_one passed given known context here mark marks _
    (none_from given (known_behind known context (mark ∷ marks)) (context_behind context (mark ∷ marks))
    (passed_behind given known context passed here (mark ∷ marks)) here marks)

if_closed : (closed : Bool) (changes : List Change) → EndNoLine changes → EndNoLine (if closed then changes else [])
if_closed true changes none = none
if_closed false changes none = tt

none_ends : (text : List ℕ) (own : List (List ℕ)) (given : Given) → EndNoLine (changes text own given)
unfolding changes
none_ends text own given = if_closed (are_closed (marks text)) _ (none_from given (known_before own (marks text)) before 0 (marks text) (marks text))

pub is_lined : (text : List ℕ) (own : List (List ℕ)) (given : Given) → IsLined (rewritten text (changes text own given))
is_lined text own given = rewritten_lined text (changes text own given) (none_ends text own given)
