-- The numbers of the states of which events speak.
use Rattle.std.proofs.Common.{◌≡◌, ℕ, ◌≤◌, ◌<◌, ◌==◌, ◌&&◌, ◌||◌, Bool, true, false, nat_lt, List, [], ◌∷◌, ◌++◌, fold, sym, refl, ap, ◌∙◌, inl, inr, arith}
use Rattle.std.specs.List.{list_all, list_any}
use Rattle.std.proofs.lemmas.Bool.{and_parts, and_from, or_from, cases_order, lt-ltb, le-ltb, ltb-true, eq-eqb, ne_eqb}
use Rattle.std.proofs.lemmas.List.Sums.{fold_push}
use Rattle.pfr_sync.specs.declared.event.Event.{Event}
use Rattle.pfr_sync.specs.Events.{is_of}
use Rattle.pfr_sync.specs.Laws.{has}
use Rattle.pfr_sync.specs.Messages.{numbers_of, with_number}

abbrev pub all_above : ℕ → List ℕ → Bool
all_above n numbers = list_all (λ m. nat_lt n m) numbers

-- the numbers rise
abbrev pub ascend : List ℕ → Bool
ascend [] = true
ascend (n ∷ numbers) = all_above n numbers && ascend numbers

-- ---- a number in its place

pub number_before : (n m : ℕ) (numbers : List ℕ) → n < m → with_number n (m ∷ numbers) ≡ n ∷ m ∷ numbers
number_before n m numbers before = rw (lt-ltb n m before) refl

pub number_over : (n m : ℕ) (numbers : List ℕ) → n ≡ m → with_number n (m ∷ numbers) ≡ m ∷ numbers
number_over n m numbers same = rw (le-ltb n m (omega arith), eq-eqb n m same) refl

pub number_behind : (n m : ℕ) (numbers : List ℕ) → m < n → with_number n (m ∷ numbers) ≡ m ∷ with_number n numbers
number_behind n m numbers behind = rw (le-ltb n m (omega arith), ne_eqb n m (λ same. absurd (omega arith))) refl

pub numbers_push : (events : List Event) (event : Event) → numbers_of (events ++ event ∷ []) ≡ with_number event.state.number.0 (numbers_of events)
numbers_push events event = fold_push (λ (numbers : List ℕ) (e : Event). with_number e.state.number.0 numbers) [] events event

-- ---- they rise

above_with : (k n : ℕ) (numbers : List ℕ) → nat_lt k n ≡ true → all_above k numbers ≡ true → all_above k (with_number n numbers) ≡ true
above_with k n [] it above = rw it refl
above_with k n (m ∷ numbers) it above =
    let parts = and_parts (nat_lt k m) (all_above k numbers) above in
    elim (cases_order n m) [
      | inl same ↦ rw (number_over n m numbers same) above
      | inr (inl before) ↦ rw (number_before n m numbers before, it) above
      | inr (inr behind) ↦ rw (number_behind n m numbers behind, parts.0) (above_with k n numbers it parts.1)
    ]

pub above_lower : (k n : ℕ) (numbers : List ℕ) → k ≤ n → all_above n numbers ≡ true → all_above k numbers ≡ true
above_lower k n [] low above = refl
above_lower k n (m ∷ numbers) low above =
    let parts = and_parts (nat_lt n m) (all_above n numbers) above in
    let less = ltb-true n m parts.0 in
    rw (lt-ltb k m (omega arith)) (above_lower k n numbers low parts.1)

ascend_with : (n : ℕ) (numbers : List ℕ) → ascend numbers ≡ true → ascend (with_number n numbers) ≡ true
ascend_with n [] in_order = refl
ascend_with n (m ∷ numbers) in_order =
    let parts = and_parts (all_above m numbers) (ascend numbers) in_order in
    elim (cases_order n m) [
      | inl same ↦ rw (number_over n m numbers same) in_order
      | inr (inl before) ↦
          let above : all_above n (m ∷ numbers) ≡ true = rw (lt-ltb n m before) (above_lower n m numbers (omega arith) parts.0) in
          rw (number_before n m numbers before) (and_from (all_above n (m ∷ numbers)) (ascend (m ∷ numbers)) above in_order)
      | inr (inr behind) ↦
          rw (number_behind n m numbers behind) (and_from (all_above m (with_number n numbers)) (ascend (with_number n numbers)) (above_with m n numbers (lt-ltb m n behind) parts.0) (ascend_with n numbers parts.1))
    ]

ascend_from : (numbers : List ℕ) (events : List Event) → ascend numbers ≡ true → ascend (fold (λ (numbers : List ℕ) (e : Event). with_number e.state.number.0 numbers) numbers events) ≡ true
ascend_from numbers [] in_order = in_order
ascend_from numbers (e ∷ events) in_order = ascend_from (with_number e.state.number.0 numbers) events (ascend_with e.state.number.0 numbers in_order)

pub numbers_ascend : (events : List Event) → ascend (numbers_of events) ≡ true
numbers_ascend events = ascend_from [] events refl

-- ---- they are those of the events

or_again : (x y : Bool) → (x || y) ≡ (x || (x || y))
or_again true y = refl
or_again false y = refl

or_turned : (x y z : Bool) → (x || (y || z)) ≡ (y || (x || z))
or_turned true true z = refl
or_turned true false z = refl
or_turned false true z = refl
or_turned false false z = refl

or_behind : (x y z : Bool) → ((x || y) || z) ≡ (y || (x || z))
or_behind true true z = refl
or_behind true false z = refl
or_behind false true z = refl
or_behind false false z = refl

pub or_nothing : (x : Bool) → (x || false) ≡ x
or_nothing true = refl
or_nothing false = refl

has_with : (k n : ℕ) (numbers : List ℕ) → has k (with_number n numbers) ≡ ((n == k) || has k numbers)
has_with k n [] = refl
has_with k n (m ∷ numbers) = elim (cases_order n m) [
  | inl same ↦ rw (number_over n m numbers same, same) (or_again (m == k) (has k numbers))
  | inr (inl before) ↦ rw (number_before n m numbers before) refl
  | inr (inr behind) ↦ rw (number_behind n m numbers behind, has_with k n numbers) (or_turned (m == k) (n == k) (has k numbers))
]

has_from : (k : ℕ) (numbers : List ℕ) (events : List Event) → has k (fold (λ (numbers : List ℕ) (e : Event). with_number e.state.number.0 numbers) numbers events) ≡ (has k numbers || list_any (is_of k) events)
has_from k numbers [] = sym (or_nothing (has k numbers))
has_from k numbers (e ∷ events) =
    has_from k (with_number e.state.number.0 numbers) events
    ∙ ap (λ b. b || list_any (is_of k) events) (has_with k e.state.number.0 numbers)
    ∙ or_behind (e.state.number.0 == k) (has k numbers) (list_any (is_of k) events)

pub numbers_have : (k : ℕ) (events : List Event) → has k (numbers_of events) ≡ list_any (is_of k) events
numbers_have k events = has_from k [] events

-- none of the numbers above another one is that one
pub none_above : (k n : ℕ) (numbers : List ℕ) → k ≤ n → all_above n numbers ≡ true → has k numbers ≡ false
none_above k n [] low above = refl
none_above k n (m ∷ numbers) low above =
    let parts = and_parts (nat_lt n m) (all_above n numbers) above in
    let less = ltb-true n m parts.0 in
    or_from (m == k) (has k numbers) (ne_eqb m k (λ same. absurd (omega arith))) (none_above k n numbers low parts.1)
