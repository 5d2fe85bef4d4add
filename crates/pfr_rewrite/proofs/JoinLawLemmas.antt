-- What changes write stands between the bytes that stay.
use Rattle.std.proofs.Common.{◌≡◌, ◌∙◌, ℕ, zero, suc, ◌-◌, Bool, true, false, List, [], ◌∷◌, ◌++◌, Option, Some, None, refl, ap, sym}
use Rattle.std.proofs.lemmas.List.{append_assoc, append-nil}
use Rattle.pfr_marks.specs.Marks.{beginning}
use Rattle.pfr_marks.specs.declared.mark.Place.{Place}
use Rattle.pfr_phrases.specs.Applying.{between, lines_of, next_line, nothing, rewritten, with_blank, with_change, with_changes, with_given, with_given_text, with_kept, with_line, with_lines, with_words, written}
use Rattle.pfr_phrases.specs.declared.applying.NewText.{NewText}
use Rattle.pfr_phrases.specs.declared.change.Change.{Change}
use Rattle.pfr_phrases.specs.declared.change.Text.{Text}
use Rattle.pfr_rewrite.specs.Laws.{blank_if, bytes_of, line_ends, replaced_from, writes}

given_more : (made : NewText) (line : ℕ) (given : Option Text) → (with_given_text made line given).text ≡ made.text ++ bytes_of given
given_more made line None = sym (append-nil made.text)
given_more made line (Some text) = refl

lines_more : (made : NewText) (line count : ℕ) → (with_lines made line count).text ≡ made.text ++ line_ends count
lines_more made line zero = sym (append-nil made.text)
lines_more made line (suc count) =
    lines_more (with_line made (next_line line)) (next_line line) count ∙ append_assoc made.text (10 ∷ []) (line_ends count)

blank_more : (made : NewText) (blank : Bool) → (with_blank made blank).text ≡ made.text ++ blank_if blank
blank_more made true = refl
blank_more made false = sym (append-nil made.text)

-- seven texts one behind the other
seven_joined : (a b c d e f g : List ℕ) → (((((a ++ b) ++ c) ++ d) ++ e) ++ f) ++ g ≡ a ++ (b ++ ((((c ++ d) ++ e) ++ f) ++ g))
seven_joined a b c d e f g =
    append_assoc ((((a ++ b) ++ c) ++ d) ++ e) f g
    ∙ append_assoc (((a ++ b) ++ c) ++ d) e (f ++ g)
    ∙ append_assoc ((a ++ b) ++ c) d (e ++ (f ++ g))
    ∙ append_assoc (a ++ b) c (d ++ (e ++ (f ++ g)))
    ∙ append_assoc a b (c ++ (d ++ (e ++ (f ++ g))))
    ∙ ap (λ rest. a ++ (b ++ rest)) (sym (append_assoc ((c ++ d) ++ e) f g ∙ append_assoc (c ++ d) e (f ++ g) ∙ append_assoc c d (e ++ (f ++ g))))

-- what a change writes more
change_more : (text : List ℕ) (made : NewText) (place : Place) (change : Change)
    → (with_change text made place change).text ≡ made.text ++ (between place.offset change.from text ++ writes change)
change_more text made place change =
    let kept = with_kept made place.line (between place.offset change.from text) in
    let parted = with_blank kept change.parted in
    let given = with_given parted change in
    let words = with_words given (written change.becomes change.finding.word) in
    let lines = with_lines words (change.to.line - lines_of change.becomes) (lines_of change.becomes) in
    blank_more lines change.blank
    ∙ ap (λ bytes. bytes ++ blank_if change.blank)
    (lines_more words (change.to.line - lines_of change.becomes) (lines_of change.becomes)
    ∙ ap (λ bytes. (bytes ++ written change.becomes change.finding.word) ++ line_ends (lines_of change.becomes))
    (given_more parted change.finding.place.line change.text ∙ ap (λ bytes. bytes ++ bytes_of change.text) (blank_more kept change.parted)))
    ∙ seven_joined made.text _ _ _ _ _ _

changes_more : (text : List ℕ) (made : NewText) (place : Place) (changes : List Change)
    → (with_changes text made place changes).text ≡ made.text ++ replaced_from place.offset text changes
changes_more text made place [] = refl
changes_more text made place (change ∷ changes) =
    changes_more text (with_change text made place change) change.to changes
    ∙ ap (λ bytes. bytes ++ replaced_from change.to.offset text changes) (change_more text made place change)
    ∙ append_assoc made.text _ (replaced_from change.to.offset text changes)

pub stays_between : (text : List ℕ) (changes : List Change) → (rewritten text changes).text ≡ replaced_from 0 text changes
unfolding rewritten
stays_between text changes = changes_more text nothing beginning changes
