-- Each capture keeps its order in a merge.
use Rattle.std.proofs.Common.{◌≡◌, ℕ, zero, suc, ◌+◌, ◌<◌, ◌∙◌, ◌==◌, Bool, true, false, cond, List, [], ◌∷◌, ◌++◌, map, Some, Result, Ok, Err, slice_get, inl, inr, refl, ap, subst, add-zero, arith}
use Rattle.std.specs.List.{filter}
use Rattle.std.proofs.lemmas.Bool.{cases_Bool}
use Rattle.std.proofs.lemmas.Bool.Decides.{nat_tests}
use Rattle.pfr_capture.specs.declared.capture.CaptureError.{CaptureError}
use Rattle.pfr_capture.specs.declared.capture.Form.{Form}
use Rattle.pfr_capture.specs.declared.capture.Tail.{Tail}
use Rattle.pfr_capture.specs.Records.{RecordBytes}
use Rattle.pfr_merge.specs.Arrivals.{Captured, Event, comes_before, event_of, events_from, events_of, last_event}
use Rattle.pfr_merge.specs.Laws.{is_of}
use Rattle.pfr_merge.specs.Merging.{merge, merged}
use Rattle.pfr_merge.proofs.MergeLemmas.{merge-nil}

-- no event of the list passes the test
abbrev pub NonePasses : (Event → Bool) → List Event → Type 0
NonePasses test [] = Unit {0}
NonePasses test (x ∷ xs) = (test x ≡ false) × NonePasses test xs

none_passes : (test : Event → Bool) (xs : List Event) → NonePasses test xs → filter test xs ≡ []
none_passes test [] none = refl
none_passes test (x ∷ xs) none = rw none.0 (none_passes test xs none.1)

-- of a merge with a list of which none passes the test, the other list's pass
pub only_second : (test : Event → Bool) (xs ys : List Event) → NonePasses test xs → filter test (merge xs ys) ≡ filter test ys
only_second test [] ys none = refl
only_second test (x ∷ xs) [] none = none_passes test (x ∷ xs) none
only_second test (x ∷ xs) (y ∷ ys) none = elim (cases_Bool (comes_before y x)) [
  | inl sooner ↦ rw sooner (ap (λ (rest : List Event). cond (test y) (y ∷ rest) rest) (only_second test (x ∷ xs) ys none))
  | inr later ↦ rw (later, none.0) (only_second test xs (y ∷ ys) none.1)
]

pub only_first : (test : Event → Bool) (xs ys : List Event) → NonePasses test ys → filter test (merge xs ys) ≡ filter test xs
only_first test [] ys none = none_passes test ys none
only_first test (x ∷ xs) [] none = refl
only_first test (x ∷ xs) (y ∷ ys) none = elim (cases_Bool (comes_before y x)) [
  | inl sooner ↦ rw (sooner, none.0) (only_first test (x ∷ xs) ys none.1)
  | inr later ↦ rw later (ap (λ (rest : List Event). cond (test x) (x ∷ rest) rest) (only_first test xs (y ∷ ys) none))
]

both_none : (test : Event → Bool) (xs ys : List Event) → NonePasses test xs → NonePasses test ys → NonePasses test (merge xs ys)
both_none test [] ys first second = second
both_none test (x ∷ xs) [] first second = first
both_none test (x ∷ xs) (y ∷ ys) first second = elim (cases_Bool (comes_before y x)) [
  | inl sooner ↦ rw sooner (second.0, both_none test (x ∷ xs) ys first second.1)
  | inr later ↦ rw later (first.0, both_none test xs (y ∷ ys) first.1 second)
]

-- ---- the events of one capture

other_last : (k place : ℕ) (ending : Result Tail CaptureError) → (place == k) ≡ false → NonePasses (is_of k) (last_event place ending)
other_last k place (Ok tail) other = tt
other_last k place (Err e) other = (other, tt)

others : (k place : ℕ) (form : Form) (records : List RecordBytes) (ending : Result Tail CaptureError) → (place == k) ≡ false → NonePasses (is_of k) (map (event_of place form) records ++ last_event place ending)
others k place form [] ending other = other_last k place ending other
others k place form (r ∷ records) ending other = (other, others k place form records ending other)

own_last : (place : ℕ) (ending : Result Tail CaptureError) → (place == place) ≡ true → filter (is_of place) (last_event place ending) ≡ last_event place ending
own_last place (Ok tail) own = refl
own_last place (Err e) own = rw own refl

owns : (place : ℕ) (form : Form) (records : List RecordBytes) (ending : Result Tail CaptureError) → (place == place) ≡ true → filter (is_of place) (map (event_of place form) records ++ last_event place ending) ≡ map (event_of place form) records ++ last_event place ending
owns place form [] ending own = own_last place ending own
owns place form (r ∷ records) ending own =
    rw own (ap (λ (rest : List Event). event_of place form r ∷ rest) (owns place form records ending own))

none_from : (k place : ℕ) (captures : List Captured) → k < place → NonePasses (is_of k) (merged (events_from place captures))
none_from k place [] below = tt
none_from k place (c ∷ captures) below =
    let other : (place == k) ≡ false = grind (arith, nat_tests) in
    both_none (is_of k) (events_of place c) (merged (events_from (suc place) captures)) (others k place c.form c.records c.ending other) (none_from k (suc place) captures (omega arith))

keeps_order_from : (place : ℕ) (captures : List Captured) (k : ℕ) (c : Captured) → slice_get captures k ≡ Some c → filter (is_of (place + k)) (merged (events_from place captures)) ≡ events_of (place + k) c
keeps_order_from place [] k c at = absurd (cc)
keeps_order_from place (first ∷ captures) zero c at =
    let same : first ≡ c = cc in
    let own : (place == place) ≡ true = grind (arith, nat_tests) in
    rw (add-zero, same)
    (only_first (is_of place) (events_of place c) (merged (events_from (suc place) captures)) (none_from place (suc place) captures (omega arith)) ∙ owns place c.form c.records c.ending own)
keeps_order_from place (first ∷ captures) (suc k) c at =
    let other : (place == suc place + k) ≡ false = grind (arith, nat_tests) in
    let there : place + suc k ≡ suc place + k = omega arith in
    rw there
    (only_second (is_of (suc place + k)) (events_of place first) (merged (events_from (suc place) captures)) (others (suc place + k) place first.form first.records first.ending other) ∙ keeps_order_from (suc place) captures k c at)

-- ---- the laws

pub each_keeps_its_order : (captures : List Captured) (place : ℕ) (c : Captured) → slice_get captures place ≡ Some c → filter (is_of place) (merged (events_from 0 captures)) ≡ events_of place c
each_keeps_its_order captures place c at =
    let none : 0 + place ≡ place = omega arith in
    subst (λ (k : ℕ). filter (is_of k) (merged (events_from 0 captures)) ≡ events_of k c) none (keeps_order_from 0 captures place c at)

pub one_capture : (c : Captured) → merged (events_from 0 (c ∷ [])) ≡ events_of 0 c
one_capture c = merge-nil (events_of 0 c)
