-- A text of which nothing is spliced.
use Rattle.std.proofs.Common.{◌≡◌, ◌∙◌, ◌<◌, ◌+◌, ◌^◌, ◌==◌, ℕ, suc, nat_lt, List, [], ◌∷◌, ◌++◌, length, None, ap, arith, inl, inr, refl, sym}
use Rattle.std.proofs.lemmas.Bool.{cases_Bool}
use Rattle.std.proofs.lemmas.List.{append_assoc}
use Rattle.pfr_words.specs.Words.{newlines}
use Rattle.pfr_include.specs.declared.file.File.{File}
use Rattle.pfr_include.specs.declared.splicing.Included.{Included}
use Rattle.pfr_include.specs.declared.splicing.Made.{Made}
use Rattle.pfr_include.specs.declared.splicing.Origin.{Origin}
use Rattle.pfr_include.specs.Laws.{own_lines, unchanged}
use Rattle.pfr_include.specs.Splicing.{itself, next_line, origin_of, with_line, with_lines}
use Rattle.pfr_include.specs.Turns.{splices, turn, with_files}
use Rattle.pfr_include.proofs.TurnLemmas.{all_turns, no_turn}

-- ends of lines change nothing but the lines

pub same_text : (made : Made) (lines : List Origin) (file line : ℕ) (bytes : List ℕ) → (with_lines made lines file line bytes).text ≡ made.text
same_text made lines file line [] = refl
same_text made lines file line (b ∷ bytes) = elim (cases_Bool (b == 10)) [
  | inl is ↦ rw is (same_text (with_line made (origin_of lines file (next_line line))) lines file (next_line line) bytes)
  | inr other ↦ rw other (same_text made lines file line bytes)
]

pub same_spliced : (made : Made) (lines : List Origin) (file line : ℕ) (bytes : List ℕ) → (with_lines made lines file line bytes).spliced ≡ made.spliced
same_spliced made lines file line [] = refl
same_spliced made lines file line (b ∷ bytes) = elim (cases_Bool (b == 10)) [
  | inl is ↦ rw is (same_spliced (with_line made (origin_of lines file (next_line line))) lines file (next_line line) bytes)
  | inr other ↦ rw other (same_spliced made lines file line bytes)
]

-- the lines of a text that is its own

abbrev all_lines : Made → List Origin
all_lines made = made.lines ++ made.last ∷ []

abbrev own : ℕ → Origin
own line = record { file = 0; line = line }

next_is : (line : ℕ) → line + 1 < 2 ^ 64 → next_line line ≡ line + 1
next_is line few = omega arith

lines_are : (made : Made) (line : ℕ) (bytes : List ℕ) → line + length bytes < 2 ^ 64 → made.last ≡ own line
    → all_lines (with_lines made [] 0 line bytes) ≡ made.lines ++ own_lines line (suc (newlines bytes))
lines_are made line [] few last = ap (λ (last : Origin). made.lines ++ last ∷ []) last
lines_are made line (b ∷ bytes) few last = elim (cases_Bool (b == 10)) [
  | inl is ↦
      let few_here : line + 1 < 2 ^ 64 = omega arith in
      let few_behind : line + 1 + length bytes < 2 ^ 64 = omega arith in
      rw (is, next_is line few_here)
      (lines_are (with_line made (own (line + 1))) (line + 1) bytes few_behind refl
      ∙ append_assoc made.lines (made.last ∷ []) (own_lines (line + 1) (suc (newlines bytes)))
      ∙ ap (λ (last : Origin). made.lines ++ last ∷ own_lines (line + 1) (suc (newlines bytes))) last)
  | inr other ↦ rw other (lines_are made line bytes (omega arith) last)
]

-- the ruleset itself

abbrev begun : List ℕ → Made
begun text = record { text = text; lines = []; last = own 1; spliced = [] }

pub itself_is : (text : List ℕ) → length text < 2 ^ 63 → itself text ≡ unchanged text
unfolding itself
itself_is text few =
    let made = with_lines (begun text) [] 0 1 text in
    let count : suc (newlines text) ≡ newlines text + 1 = omega arith in
    let lines : all_lines made ≡ own_lines 1 (newlines text + 1) = lines_are (begun text) 1 text (omega arith) refl ∙ ap (own_lines 1) count in
    ap (λ (t : List ℕ). record { text = t; lines = all_lines made; spliced = made.spliced }) (same_text (begun text) [] 0 1 text)
    ∙ ap (λ s. record { text = text; lines = all_lines made; spliced = s }) (same_spliced (begun text) [] 0 1 text)
    ∙ ap (λ (ls : List Origin). record { text = text; lines = ls; spliced = [] }) lines

-- nothing to splice

none_left : (files : List File) (now : Included) → splices files now.text ≡ [] → turn files now ≡ None
unfolding turn
none_left files now none = elim (cases_Bool (nat_lt 1048576 (length now.text))) [
  | inl long ↦ rw long refl
  | inr short ↦ rw (short, none) refl
]

pub nothing_to_splice : (text : List ℕ) (files : List File) → length text < 2 ^ 63 → splices files text ≡ [] → with_files text files ≡ unchanged text
nothing_to_splice text files few none =
    let made = itself_is text few in
    let same : splices files (itself text).text ≡ [] = ap (λ (i : Included). splices files i.text) made ∙ none in
    sym (all_turns text files) ∙ no_turn 16 files (itself text) (none_left files (itself text) same) ∙ made
