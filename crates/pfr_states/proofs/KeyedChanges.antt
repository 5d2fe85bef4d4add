-- What changes of places are to the states, and to what all of them weigh together.
use Rattle.std.proofs.Common.{◌≡◌, ◌+◌, ◌==◌, ◌∙◌, ◌⊎◌, ℕ, Bool, true, false, if◌then◌else◌, not, nat_lt, List, [], ◌∷◌, map, Option, Some, None, sym, refl, ap, subst, inl, inr, arith}
use Rattle.std.specs.List.{Contains, filter, find, list_any}
use Rattle.std.specs.Option.{option_map}
use Rattle.std.proofs.lemmas.Bool.{and_parts, both_ways, cases_Bool, eq-eqb, eqb-true, ne_eqb, not-true, or_parts}
use Rattle.pfr_places.specs.Places.{after as after_placed, at, first as first_placed, have_own_places, is_at, is_number as is_of_number, of_number, rise as rise_placed, with_placed, with_value, without as without_placed}
use Rattle.pfr_places.specs.declared.place.Place.{Place}
use Rattle.pfr_track.specs.declared.state.State.{State}
use Rattle.pfr_track.specs.declared.state.StateNumber.{StateNumber}
use Rattle.pfr_states.specs.declared.stored.Stored.{Stored}
use Rattle.pfr_states.specs.Keyed.{AreNumbered, states_of, total}
use Rattle.pfr_states.specs.States.{after, first, is_number, state_of, with_state, with_touched}
use Rattle.pfr_states.proofs.FindLemmas.{found_none, found_there}
use Rattle.pfr_states.proofs.Membership.{here, in_cons, in_none, there}
use Rattle.pfr_states.proofs.KeyedLemmas.{Held, find_states, one_at, one_placed}

rest_of : (x : Held) (xs : List Held) → AreNumbered (x ∷ xs) → AreNumbered xs
rest_of x xs numbers = λ p h. numbers p (there x xs p h)

-- ---- questions

same_found : {X : Type 0} (p q : X → Bool) (xs : List X) → ((x : X) → Contains xs x → p x ≡ q x) → find p xs ≡ find q xs
same_found p q [] same = refl
same_found p q (x ∷ xs) same = rw (same x (here x xs), same_found p q xs (λ y h. same y (there x xs y h))) refl

pub number_found : (n : StateNumber) (all : List Held) → AreNumbered all → state_of n (states_of all) ≡ option_map (λ (p : Held). p.value.state) (of_number n.0 all)
number_found n all numbers =
    find_states (is_number n) all
    ∙ ap (option_map (λ (p : Held). p.value.state)) (same_found (λ (p : Held). is_number n p.value.state) (is_of_number n.0) all (λ p h. ap (λ (m : ℕ). m == n.0) (sym (numbers p h))))

pub after_found : (n : StateNumber) (all : List Held) → AreNumbered all → after n (states_of all) ≡ option_map (λ (p : Held). p.value.state) (after_placed n.0 all)
after_found n all numbers =
    find_states (λ (s : State). nat_lt n.0 s.number.0) all
    ∙ ap (option_map (λ (p : Held). p.value.state)) (same_found (λ (p : Held). nat_lt n.0 p.value.state.number.0) (λ (p : Held). nat_lt n.0 p.number) all (λ p h. ap (λ (m : ℕ). nat_lt n.0 m) (sym (numbers p h))))

pub first_found : (all : List Held) → first (states_of all) ≡ option_map (λ (p : Held). p.value.state) (first_placed all)
first_found [] = refl
first_found (x ∷ xs) = refl

-- ---- one more

pub states_with : (p : Held) (all : List Held) → AreNumbered all → p.number ≡ p.value.state.number.0 → of_number p.number all ≡ None → states_of (with_placed p all) ≡ with_state p.value.state (states_of all)
states_with p [] numbers is fresh = refl
states_with p (x ∷ xs) numbers is fresh =
    let other = found_none (is_of_number p.number) (x ∷ xs) fresh x (here x xs) in
    let own = numbers x (here x xs) in
    let apart : is_number p.value.state.number x.value.state ≡ false = ap (λ (m : ℕ). m == p.value.state.number.0) (sym own) ∙ ap (λ (m : ℕ). x.number == m) (sym is) ∙ other in
    let order : nat_lt p.number x.number ≡ nat_lt p.value.state.number.0 x.value.state.number.0 = ap (λ (m : ℕ). nat_lt m x.number) is ∙ ap (λ (m : ℕ). nat_lt p.value.state.number.0 m) own in
    elim (cases_Bool (nat_lt p.number x.number)) [
      | inl before ↦ rw (before, sym order ∙ before) refl
      | inr behind ↦ rw (behind, sym order ∙ behind, apart) (ap (λ (states : List State). x.value.state ∷ states) (states_with p xs (rest_of x xs numbers) is (rw other at fresh)))
    ]

-- ---- one less

pub states_without : (n : StateNumber) (all : List Held) → AreNumbered all → states_of (without_placed n.0 all) ≡ filter (λ (s : State). not (is_number n s)) (states_of all)
states_without n [] numbers = refl
states_without n (x ∷ xs) numbers =
    let own : is_of_number n.0 x ≡ is_number n x.value.state = ap (λ (m : ℕ). m == n.0) (numbers x (here x xs)) in
    let rest = states_without n xs (rest_of x xs numbers) in
    elim (cases_Bool (is_of_number n.0 x)) [
      | inl it_is ↦ rw (it_is, sym own ∙ it_is) rest
      | inr other ↦ rw (other, sym own ∙ other) (ap (λ (states : List State). x.value.state ∷ states) rest)
    ]

pub in_without : (n : ℕ) (all : List Held) (q : Held) → Contains (without_placed n all) q → Contains all q
in_without n [] q h = absurd (in_none q h)
in_without n (x ∷ xs) q h = elim (cases_Bool (is_of_number n x)) [
  | inl it_is ↦ there x xs q (in_without n xs q (rw it_is at h))
  | inr other ↦ elim (in_cons x (without_placed n xs) q (rw other at h)) [
    | inl is ↦ subst (λ (r : Held). Contains (x ∷ xs) r) is (here x xs)
    | inr rest ↦ there x xs q (in_without n xs q rest)
  ]
]

-- ---- another value at a place

-- who stands at a place, with another value
abbrev pub with : Held → Stored → Held
with p value = record { number = p.number; place = p.place; value = value }

abbrev in_place : Place → Stored → Held → Held
in_place place value x = if is_at place x then with x value else x

pub in_value : (place : Place) (value : Stored) (all : List Held) (p : Held) → have_own_places all ≡ true → at place all ≡ Some p → (q : Held) → Contains (with_value place value all) q → (with p value ≡ q) ⊎ (Contains all q × (is_at place q ≡ false))
in_value place value all p own is q h = by all (λ x hx. hx) h where
  by : (xs : List Held) → ((x : Held) → Contains xs x → Contains all x) → Contains (with_value place value xs) q → (with p value ≡ q) ⊎ (Contains all q × (is_at place q ≡ false))
  by [] among inside = absurd (in_none q inside)
  by (x ∷ xs) among inside = elim (in_cons (in_place place value x) (with_value place value xs) q inside) [
    | inl same ↦ elim (cases_Bool (is_at place x)) [
      | inl it_is ↦ (let here_is = found_there (is_at place) all p is in inl (ap (λ (r : Held). with r value) (one_at place all own p x here_is.0 (among x (here x xs)) here_is.1 it_is) ∙ (rw it_is at same)))
      | inr other ↦ (let itself : x ≡ q = rw other at same in inr (subst (λ (r : Held). Contains all r) itself (among x (here x xs)), ap (is_at place) (sym itself) ∙ other))
    ]
    | inr rest ↦ by xs (λ y hy. among y (there x xs y hy)) rest
  ]

same_map : (f : Held → Held) (g : State → State) (xs : List Held) → ((x : Held) → Contains xs x → (f x).value.state ≡ g x.value.state) → states_of (map f xs) ≡ map g (states_of xs)
same_map f g [] same = refl
same_map f g (x ∷ xs) same = rw (same x (here x xs), same_map f g xs (λ y h. same y (there x xs y h))) refl

pub states_value : (place : Place) (value : Stored) (all : List Held) (p : Held) → AreNumbered all → rise_placed all ≡ true → have_own_places all ≡ true → at place all ≡ Some p → p.number ≡ value.state.number.0 → states_of (with_value place value all) ≡ with_touched value.state (states_of all)
states_value place value all p numbers in_order own is number =
    let here_is = found_there (is_at place) all p is in
    same_map (in_place place value) (λ (s : State). if is_number value.state.number s then value.state else s) all (λ x h. elim (cases_Bool (is_at place x)) [
      | inl it_is ↦
          let same : p ≡ x = one_at place all own p x here_is.0 h here_is.1 it_is in
          let level : x.value.state.number.0 ≡ value.state.number.0 = sym (numbers x h) ∙ ap (λ (q : Held). q.number) (sym same) ∙ number in
          rw (it_is, eq-eqb x.value.state.number.0 value.state.number.0 level) refl
      | inr other ↦
          let apart : is_number value.state.number x.value.state ≡ false = ne_eqb x.value.state.number.0 value.state.number.0 (λ level.
          both_ways (is_at place x) other (ap (is_at place) (one_placed all in_order x p h here_is.0 (numbers x h ∙ level ∙ sym number)) ∙ here_is.1)) in
          rw (other, apart) refl
    ])

-- if a place isn't among others, they stay as they are
untouched : (weight : Held → ℕ) (place : Place) (value : Stored) (xs : List Held) → list_any (is_at place) xs ≡ false → total weight (with_value place value xs) ≡ total weight xs
untouched weight place value [] none = refl
untouched weight place value (x ∷ xs) none =
    let parts = or_parts (is_at place x) (list_any (is_at place) xs) none in
    rw (parts.0, untouched weight place value xs parts.1) refl

pub total_value : (weight : Held → ℕ) (place : Place) (value : Stored) (all : List Held) (p : Held) → have_own_places all ≡ true → at place all ≡ Some p
    → total weight (with_value place value all) + weight p ≡ weight (with p value) + total weight all
total_value weight place value [] p own is = absurd cc
total_value weight place value (x ∷ xs) p own is =
    let parts = and_parts (not (list_any (is_at x.place) xs)) (have_own_places xs) own in
    elim (cases_Bool (is_at place x)) [
      | inl it_is ↦
          let same : x ≡ p = ap (λ (r : Option Held). or_self r x) (rw it_is at is) in
          let none : list_any (is_at place) xs ≡ false = subst (λ (n : ℕ). list_any (λ (q : Held). q.place.0 == n) xs ≡ false) (eqb-true x.place.0 place.0 it_is) (not-true (list_any (is_at x.place) xs) parts.0) in
          rw (it_is, untouched weight place value xs none, ← same) (omega arith)
      | inr other ↦ rw other (let rest = total_value weight place value xs p parts.1 (rw other at is) in omega arith)
    ] where
      or_self : Option Held → Held → Held
      or_self None x = x
      or_self (Some y) x = y

-- if no state stands at a place, nothing is written
pub vacant_value : (place : Place) (value : Stored) (all : List Held) → at place all ≡ None → with_value place value all ≡ all
vacant_value place value [] none = refl
vacant_value place value (x ∷ xs) none =
    let other : is_at place x ≡ false = found_none (is_at place) (x ∷ xs) none x (here x xs) in
    rw other (ap (λ (rest : List Held). x ∷ rest) (vacant_value place value xs (rw other at none)))

-- if the same state is written, the states stay
pub same_states : (place : Place) (value : Stored) (all : List Held) (p : Held) → have_own_places all ≡ true → at place all ≡ Some p → value.state ≡ p.value.state → states_of (with_value place value all) ≡ states_of all
same_states place value all p own is same =
    let there = found_there (is_at place) all p is in
    same_map (in_place place value) (λ (s : State). s) all (λ x h. elim (cases_Bool (is_at place x)) [
      | inl it_is ↦ rw it_is (same ∙ ap (λ (q : Held). q.value.state) (one_at place all own p x there.0 h there.1 it_is))
      | inr other ↦ rw other refl
    ]) ∙ itself (states_of all) where
      itself : (states : List State) → map (λ (s : State). s) states ≡ states
      itself [] = refl
      itself (s ∷ states) = ap (λ (rest : List State). s ∷ rest) (itself states)
