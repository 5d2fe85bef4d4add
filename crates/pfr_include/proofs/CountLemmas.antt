-- How many lines have an origin.
use Rattle.std.proofs.Common.{◌≡◌, ◌∙◌, ◌+◌, ◌==◌, ℕ, zero, suc, Bool, true, false, nat_lt, if◌then◌else◌, List, [], ◌∷◌, ◌++◌, length, Option, Some, None, ap, arith, codes, drop, inl, inr, length-append, refl, subst, sym}
use Rattle.std.proofs.lemmas.Bool.{cases_Bool}
use Rattle.pfr_words.proofs.LineLemmas.{newlines-append}
use Rattle.pfr_words.specs.Words.{newlines}
use Rattle.pfr_marks.specs.declared.mark.Place.{Place}
use Rattle.pfr_include.specs.declared.file.File.{File}
use Rattle.pfr_include.specs.declared.file.Found.{Found}
use Rattle.pfr_include.specs.declared.splices.Put.{Put}
use Rattle.pfr_include.specs.declared.splices.Put.TheVariants as put
use Rattle.pfr_include.specs.declared.splices.Splice.{Splice}
use Rattle.pfr_include.specs.declared.splicing.Included.{Included}
use Rattle.pfr_include.specs.declared.splicing.Made.{Made}
use Rattle.pfr_include.specs.declared.splicing.Origin.{Origin}
use Rattle.pfr_include.specs.Laws.{IsCounted}
use Rattle.pfr_include.specs.Splicing.{after, beginning, between, finished, first_of, is_ended, itself, next_line, nothing, origin_of, with_end, with_file, with_kept, with_last, with_line, with_lines, with_newline, with_note, with_put_of, with_rules, with_splice, with_splices, with_text, with_words}
use Rattle.pfr_include.specs.Turns.{after_some, splices, turn, turns, with_files}
use Rattle.pfr_include.proofs.ItselfLemmas.{same_text}
use Rattle.pfr_include.proofs.TurnLemmas.{all_turns, next_turn, no_turns}

-- a text that is being made: the lines that have ended are as many as its newlines
abbrev IsEven : Made → Type 0
IsEven made = length made.lines ≡ newlines made.text

one_more : (lines : List Origin) (origin : Origin) → length (lines ++ origin ∷ []) ≡ length lines + 1
one_more lines origin = length-append lines (origin ∷ [])

-- ---- each thing that is put

lines_more : (made : Made) (lines : List Origin) (file line : ℕ) (bytes : List ℕ)
    → length (with_lines made lines file line bytes).lines ≡ length made.lines + newlines bytes
lines_more made lines file line [] = omega arith
lines_more made lines file line (b ∷ bytes) = elim (cases_Bool (b == 10)) [
  | inl is ↦
      let more = one_more made.lines made.last in
      let here : length (made.lines ++ made.last ∷ []) + newlines bytes ≡ length made.lines + suc (newlines bytes) = omega arith in
      rw is (lines_more (with_line made (origin_of lines file (next_line line))) lines file (next_line line) bytes ∙ here)
  | inr other ↦ rw other (lines_more made lines file line bytes)
]

kept_even : (made : Made) (lines : List Origin) (file line : ℕ) (bytes : List ℕ) → IsEven made → IsEven (with_kept made lines file line bytes)
kept_even made lines file line bytes even =
    let longer : Made = record made { text = made.text ++ bytes } in
    lines_more longer lines file line bytes ∙ ap (λ n. n + newlines bytes) even ∙ sym (newlines-append made.text bytes)
    ∙ ap newlines (sym (same_text longer lines file line bytes))

newline_even : (made : Made) (origin : Origin) → IsEven made → IsEven (with_newline made origin)
newline_even made origin even = one_more made.lines made.last ∙ ap (λ n. n + 1) even ∙ sym (newlines-append made.text (10 ∷ []))

words_even : (made : Made) (words : List ℕ) → newlines words ≡ 0 → IsEven made → IsEven (with_words made words)
words_even made words none even = let more = newlines-append made.text words in omega arith

end_even : (made : Made) (ended : Bool) (origin : Origin) → IsEven made → IsEven (with_end made ended origin)
end_even made true origin even = even
end_even made false origin even = newline_even made origin even

text_even : (made : Made) (file : ℕ) (text : List ℕ) → IsEven made → IsEven (with_text made file text)
text_even made file text even =
    let begun : Made = with_last made (first_of file) in
    end_even (with_kept begun [] file 1 text) (is_ended text) (first_of file) (kept_even begun [] file 1 text even)

either_even : (test : Bool) (made other : Made) → IsEven made → IsEven other → IsEven (if test then made else other)
either_even true made other even also = even
either_even false made other even also = also

file_even : (made : Made) (found : Found) (origin : Origin) → IsEven made → IsEven (with_file made found origin)
file_even made found origin even =
    either_even (length found.text == 0) made (with_text made found.number found.text) even (text_even made found.number found.text even)

rules_even : (made : Made) (found : Found) (origin : Origin) → IsEven made → IsEven (with_rules made found origin)
rules_even made found origin even =
    let head : Made = with_words made (codes " {") in
    let line : Made = with_newline head origin in
    words_even (with_file line found origin) (codes "}") refl
    (file_even line found origin (newline_even head origin (words_even made (codes " {") refl even)))

-- ---- splices

put_even : (made : Made) (statement origin : Origin) (column : ℕ) (put : Put) → IsEven made → IsEven (with_put_of made statement origin column put)
put_even made statement origin column put.Nothing even = even
put_even made statement origin column (put.File found) even = file_even (with_note made statement column found.number) found origin even
put_even made statement origin column (put.Rules found) even = rules_even (with_note made statement column found.number) found origin even

splice_even : (text : List ℕ) (lines : List Origin) (made : Made) (place : Place) (splice : Splice) → IsEven made → IsEven (with_splice text lines made place splice)
splice_even text lines made place splice even =
    let bytes = between place.offset splice.start.offset text in
    put_even (with_kept made lines 0 place.line bytes) (origin_of lines 0 splice.statement.line) (origin_of lines 0 splice.start.line) splice.statement.column splice.put
    (kept_even made lines 0 place.line bytes even)

splices_even : (text : List ℕ) (lines : List Origin) (made : Made) (place : Place) (splices : List Splice) → IsEven made → IsEven (with_splices text lines made place splices)
splices_even text lines made place [] even = kept_even made lines 0 place.line (drop place.offset text) even
splices_even text lines made place (splice ∷ splices) even =
    splices_even text lines (with_splice text lines made place splice) splice.end splices (splice_even text lines made place splice even)

-- ---- texts that are made

finished_is : (made : Made) → IsEven made → IsCounted (finished made)
finished_is made even = one_more made.lines made.last ∙ ap (λ n. n + 1) even

itself_is : (text : List ℕ) → IsCounted (itself text)
unfolding itself
itself_is text = finished_is (with_kept (nothing (first_of 0) []) [] 0 1 text) (kept_even (nothing (first_of 0) []) [] 0 1 text refl)

after_is : (before : Included) (splices : List Splice) → IsCounted (after before splices)
unfolding after
after_is before splices =
    let begun : Made = nothing (origin_of before.lines 0 1) before.spliced in
    finished_is (with_splices before.text before.lines begun beginning splices) (splices_even before.text before.lines begun beginning splices refl)

-- ---- turns

abbrev IsNextCounted : Option Included → Type 0
IsNextCounted None = Unit
IsNextCounted (Some next) = IsCounted next

some_is : (now : Included) (splices : List Splice) → IsNextCounted (after_some now splices)
some_is now [] = tt
some_is now (splice ∷ splices) = after_is now (splice ∷ splices)

short_is : (long : Bool) (now : Included) (splices : List Splice) → IsNextCounted (if long then None else after_some now splices)
short_is true now splices = tt
short_is false now splices = some_is now splices

turn_is : (files : List File) (now : Included) → IsNextCounted (turn files now)
unfolding turn
turn_is files now = short_is (nat_lt 1048576 (length now.text)) now (splices files now.text)

next_is : (left : ℕ) (files : List File) (now : Included) (next : Option Included) → ((next : Included) → IsCounted next → IsCounted (turns left files next))
    → IsCounted now → IsNextCounted next → IsCounted (elim next [ Some next ↦ turns left files next | None ↦ now ])
next_is left files now None goes_on counted next = counted
next_is left files now (Some then_it) goes_on counted next = goes_on then_it next

turns_are : (left : ℕ) (files : List File) (now : Included) → IsCounted now → IsCounted (turns left files now)
turns_are zero files now counted = subst IsCounted (sym (no_turns files now)) counted
turns_are (suc left) files now counted =
    subst IsCounted (sym (next_turn left files now))
    (next_is left files now (turn files now) (λ (next : Included) is. turns_are left files next is) counted (turn_is files now))

pub each_is_counted : (text : List ℕ) (files : List File) → IsCounted (with_files text files)
each_is_counted text files = subst IsCounted (all_turns text files) (turns_are 16 files (itself text) (itself_is text))
