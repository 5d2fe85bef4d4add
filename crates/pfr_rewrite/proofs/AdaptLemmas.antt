-- What adapting leaves as it is.
use Rattle.std.proofs.Common.{◌≡◌, ◌∙◌, ℕ, Bool, true, false, if◌then◌else◌, List, [], ◌∷◌, Option, Some, None, refl, subst, sym, inl, inr}
use Rattle.pfr_rewrite.specs.declared.adapting.Adapted.{Adapted}
use Rattle.pfr_rewrite.specs.declared.adapting.Surroundings.{Surroundings}
use Rattle.pfr_rewrite.specs.Adapting.{adapted, adapted_by, again_at, changes_for, first_place, is_accepted, settled, settled_by, unchanged, unsettled}
use Rattle.pfr_rewrite.specs.AdaptingLaws.{Stays}
use Rattle.pfr_phrases.specs.Tracing.{traced}
use Rattle.pfr_phrases.specs.declared.tracing.Piece.{Piece}
use Rattle.pfr_marks.specs.declared.mark.Place.{Place}
use Rattle.pfr_phrases.specs.Applying.{rewritten}
use Rattle.pfr_phrases.specs.declared.change.Change.{Change}

-- what no change rewrites has the same bytes
pub same_text : (text : List ℕ) → (unchanged text).text ≡ text
unfolding adapted_by traced rewritten
same_text text = refl

pub no_findings : (text : List ℕ) → (unchanged text).findings ≡ []
unfolding adapted_by
no_findings text = refl

pub accepted_stays : (text : List ℕ) (around : Surroundings) → is_accepted text around ≡ true → adapted text around ≡ unchanged text
unfolding adapted
accepted_stays text around accepted = rw accepted refl

pub is_settled_else : (text : List ℕ) (around : Surroundings) → is_accepted text around ≡ false → adapted text around ≡ settled text around
unfolding adapted
is_settled_else text around accepted = rw accepted refl

-- of a text of which nothing is rewritten
none_of : (pieces : List Piece) (changes : List Change) → first_place pieces changes ≡ None → changes ≡ []
none_of pieces [] is = refl
none_of pieces (change ∷ changes) is = absurd (cc)

either : (test : Bool) (text : List ℕ) (around : Surroundings) → changes_for (unchanged text).text around ≡ []
    → (if test then unchanged text else settled_by text (unchanged text) (again_at (unchanged text) around)) ≡ unchanged text
either true text around none = refl
either false text around none = rw none refl

nothing_settles : (text : List ℕ) (around : Surroundings) → changes_for text around ≡ [] → settled text around ≡ unchanged text
unfolding settled
nothing_settles text around none =
    let same : changes_for (unchanged text).text around ≡ [] = subst (λ other. changes_for other around ≡ []) (sym (same_text text)) none in
    rw none (either (is_accepted (unchanged text).text around) text around same)

by_acceptance : (accepted : Bool) (text : List ℕ) (around : Surroundings) → is_accepted text around ≡ accepted → changes_for text around ≡ []
    → adapted text around ≡ unchanged text
by_acceptance true text around is none = accepted_stays text around is
by_acceptance false text around is none = is_settled_else text around is ∙ nothing_settles text around none

pub unchanged_stays : (text : List ℕ) (around : Surroundings) → changes_for text around ≡ [] → adapted text around ≡ unchanged text
unchanged_stays text around none = by_acceptance (is_accepted text around) text around refl none

-- what is answered stays if it is given again
if_unchanged : (text : List ℕ) (around : Surroundings) → adapted text around ≡ unchanged text → Stays (unchanged text) around
if_unchanged text around is = inl (subst (λ same. adapted same around ≡ unchanged same) (sym (same_text text)) is)

-- an answer with the same text is answered again
if_same : (text : List ℕ) (around : Surroundings) (answer : Adapted) → answer.text ≡ text → adapted text around ≡ answer → Stays answer around
if_same text around answer same is = inr (subst (λ other. adapted other around ≡ answer) (sym same) is)

unsettled_text : (text : List ℕ) (place : Place) → (unsettled text place).text ≡ text
unfolding unsettled adapted_by traced rewritten
unsettled_text text place = refl

by_again : (again : Option Place) (text : List ℕ) (around : Surroundings) → adapted text around ≡ settled_by text (adapted_by text (changes_for text around)) again
    → again_at (adapted_by text (changes_for text around)) around ≡ again → Stays (adapted text around) around
by_again None text around is none =
    let all = adapted_by text (changes_for text around) in
    subst (λ answer. Stays answer around) (sym is)
    (inl (unchanged_stays all.text around (none_of all.pieces (changes_for all.text around) none)))
by_again (Some place) text around is some =
    subst (λ other. Stays other around) (sym is) (if_same text around (unsettled text place) (unsettled_text text place) is)

by_settling : (accepted : Bool) (text : List ℕ) (around : Surroundings) → is_accepted text around ≡ false
    → is_accepted (adapted_by text (changes_for text around)).text around ≡ accepted → Stays (adapted text around) around
unfolding settled
by_settling true text around refused is =
    let all : adapted text around ≡ adapted_by text (changes_for text around) = is_settled_else text around refused ∙ rw is refl in
    subst (λ answer. Stays answer around) (sym all) (inl (accepted_stays (adapted_by text (changes_for text around)).text around is))
by_settling false text around refused is =
    let all = adapted_by text (changes_for text around) in
    by_again (again_at all around) text around (is_settled_else text around refused ∙ rw is refl) refl

by_reading : (accepted : Bool) (text : List ℕ) (around : Surroundings) → is_accepted text around ≡ accepted → Stays (adapted text around) around
by_reading true text around is =
    let same = accepted_stays text around is in subst (λ answer. Stays answer around) (sym same) (if_unchanged text around same)
by_reading false text around is = by_settling (is_accepted (adapted_by text (changes_for text around)).text around) text around is refl

pub adapted_stays : (text : List ℕ) (around : Surroundings) → Stays (adapted text around) around
adapted_stays text around = by_reading (is_accepted text around) text around refl
