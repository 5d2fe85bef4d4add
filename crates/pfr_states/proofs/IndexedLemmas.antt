-- What a table of states answers by the places of the states.
use Rattle.std.proofs.Common.{◌≡◌, ◌≤◌, ◌∙◌, ◌==◌, ℕ, Bool, true, false, is_some, List, Option, Some, None, sym, refl, ap, subst, inl, inr, arith}
use Rattle.std.specs.List.{Contains, filter, find, list_any}
use Rattle.std.specs.Option.{option_map}
use Rattle.std.specs.Ordering.{is_le, nat_cmp}
use Rattle.std.proofs.lemmas.Bool.{and_parts, cases_Bool, cases_order, eq-eqb, eqb-true, le-ltb, ne_eqb}
use Rattle.pfr_places.specs.Places.{after as after_placed, at, first as first_placed, have_own_places, is_number as is_of_number, of_number, place_of, value_of}
use Rattle.pfr_places.specs.declared.place.Place.{Place}
use Rattle.pfr_track.specs.declared.state.State.{State}
use Rattle.pfr_track.specs.declared.state.StateNumber.{StateNumber}
use Rattle.pfr_states.specs.declared.stored.Stored.{Stored}
use Rattle.pfr_states.specs.Awaited.{is_kept_by, kept_by, waits_by}
use Rattle.pfr_states.specs.Keyed.{AreNumbered, IsPlaceOf, passes_at, states_of}
use Rattle.pfr_states.specs.States.{after, first, is_number, rise, state_of}
use Rattle.pfr_deadlines.specs.Waits.{Wait}
use Rattle.pfr_states.proofs.FindLemmas.{found_only, found_there, none_found, one_number, some_any}
use Rattle.pfr_states.proofs.KeyedChanges.{after_found, first_found, number_found}
use Rattle.pfr_states.proofs.KeyedLemmas.{Held, holder, in_states, value_there, who_passes}
use Rattle.pfr_states.proofs.Membership.{from_filter, none_of}

abbrev pub state_in : Option Stored → Option State
state_in stored = option_map (λ stored. stored.state) stored

in_value : (r : Option Held) → state_in (value_of r) ≡ option_map (λ (p : Held). p.value.state) r
in_value None = refl
in_value (Some p) = refl

pub number_answer : (n : StateNumber) (all : List Held) (result : Option Stored) → AreNumbered all → result ≡ value_of (of_number n.0 all) → state_in result ≡ state_of n (states_of all)
number_answer n all result numbers is = ap (λ (r : Option Stored). state_in r) is ∙ in_value (of_number n.0 all) ∙ sym (number_found n all numbers)

-- a state that is found, by its place
pub found_answer : (test : State → Bool) (all : List Held) (place : Place) (stored : Stored) → passes_at test place all ≡ true → value_of (at place all) ≡ Some stored → Contains (states_of all) stored.state × (test stored.state ≡ true)
found_answer test all place stored passed has =
    let p = who_passes test all place passed in
    let same : p.0.value ≡ stored = ap (λ (r : Option Stored). or_value r stored) (sym (ap (λ (r : Option Held). value_of r) p.1) ∙ has) in
    (subst (λ (v : Stored). Contains (states_of all) v.state) same (in_states all p.0 p.2), ap (λ (v : Stored). test v.state) (sym same) ∙ p.3) where
      or_value : Option Stored → Stored → Stored
      or_value None v = v
      or_value (Some w) v = w

pub found_nowhere : (test : State → Bool) (all : List Held) (place : Place) → passes_at test place all ≡ true → value_of (at place all) ≡ None → ⊥
found_nowhere test all place passed none =
    let p = who_passes test all place passed in
    let some : value_of (at place all) ≡ Some p.0.value = ap (λ (r : Option Held). value_of r) p.1 in
    absurd cc

-- whether a state passes, by the place of one
pub any_by_place : (test : State → Bool) (all : List Held) (result : Option Place) → IsPlaceOf test all result → is_some result ≡ list_any test (states_of all)
any_by_place test all None none = sym none
any_by_place test all (Some place) passed = (let p = who_passes test all place passed in sym (some_any test (states_of all) p.0.value.state (in_states all p.0 p.2) p.3))

-- if no place has a number, no state has it
pub state_absent : (n : StateNumber) (all : List Held) → AreNumbered all → place_of (of_number n.0 all) ≡ None → state_of n (states_of all) ≡ None
state_absent n all numbers none = number_found n all numbers ∙ by (of_number n.0 all) none where
  by : (r : Option Held) → place_of r ≡ None → option_map (λ (p : Held). p.value.state) r ≡ None
  by None none = refl
  by (Some p) none = absurd cc

-- the state of least number, by its number
least_state : (p q : State → Bool) (all : List Held) (number : StateNumber) → rise (states_of all) ≡ true → Some number ≡ option_map (λ state. state.number) (find p (filter q (states_of all)))
    → (s : State) × (state_of number (states_of all) ≡ Some s) × (find p (filter q (states_of all)) ≡ Some s)
least_state p q all number in_order least = by (find p (filter q (states_of all))) refl least where
  or_number : Option StateNumber → StateNumber → StateNumber
  or_number None n = n
  or_number (Some m) n = m

  by : (found : Option State) → find p (filter q (states_of all)) ≡ found → Some number ≡ option_map (λ state. state.number) found → (s : State) × (state_of number (states_of all) ≡ Some s) × (find p (filter q (states_of all)) ≡ Some s)
  by None found none = absurd cc
  by (Some s) found same =
      let h = from_filter q (states_of all) s (found_there p (filter q (states_of all)) s found).0 in
      let level : s.number.0 ≡ number.0 = ap (λ (n : Option StateNumber). (or_number n number).0) (sym same) in
      let of_it : state_of number (states_of all) ≡ Some s = found_only (is_number number) (states_of all) s h.0 (eq-eqb s.number.0 number.0 level)
      (λ b hb is_b. one_number (states_of all) in_order s b h.0 hb (level ∙ sym (eqb-true b.number.0 number.0 is_b))) in
      (s, of_it, found)

pub least_answer : (p q : State → Bool) (all : List Held) (number : StateNumber) (place : Place) (r : Option Stored) → AreNumbered all → rise (states_of all) ≡ true → have_own_places all ≡ true → Some number ≡ option_map (λ state. state.number) (find p (filter q (states_of all)))
    → place_of (of_number number.0 all) ≡ Some place → r ≡ value_of (at place all) → state_in r ≡ find p (filter q (states_of all))
least_answer p q all number place r numbers in_order places least there is =
    let s = least_state p q all number in_order least in
    number_answer number all r numbers (is ∙ value_there all places (is_of_number number.0) place there) ∙ s.1 ∙ sym s.2

pub least_there : (p q : State → Bool) (all : List Held) (number : StateNumber) → AreNumbered all → rise (states_of all) ≡ true → Some number ≡ option_map (λ state. state.number) (find p (filter q (states_of all)))
    → place_of (of_number number.0 all) ≡ None → ⊥
least_there p q all number numbers in_order least none =
    let s = least_state p q all number in_order least in
    let absent = state_absent number all numbers none in
    let clash : None ≡ Some s.0 = sym absent ∙ s.1 in
    absurd cc

pub after_answer : (n : StateNumber) (all : List Held) (result : Option Stored) → AreNumbered all → result ≡ value_of (after_placed n.0 all) → state_in result ≡ after n (states_of all)
after_answer n all result numbers is = ap (λ (r : Option Stored). state_in r) is ∙ in_value (after_placed n.0 all) ∙ sym (after_found n all numbers)

pub first_answer : (all : List Held) (result : Option Stored) → result ≡ value_of (first_placed all) → state_in result ≡ first (states_of all)
first_answer all result is = ap (λ (r : Option Stored). state_in r) is ∙ in_value (first_placed all) ∙ sym (first_found all)

-- ---- deadlines

-- the state that waits by a deadline
pub record IsKept (all : List Held) (wait : Wait) (stored : Stored) : Type 0 where
  pub placed : Held
  pub there : at wait.2 all ≡ Some placed
  pub among : Contains all placed
  pub has_value : placed.value ≡ stored
  pub at_place : placed.place.0 ≡ wait.2.0
  pub deadline : stored.waits.0 ≡ wait.0.0
  pub number : stored.state.number.0 ≡ wait.1.0

pub kept : (all : List Held) (wait : Wait) (stored : Stored) → kept_by wait (value_of (at wait.2 all)) ≡ Some stored → IsKept all wait stored
kept all wait stored is = by (value_of (at wait.2 all)) refl is where
  or_value : Option Stored → Stored → Stored
  or_value None v = v
  or_value (Some w) v = w

  by : (r : Option Stored) → value_of (at wait.2 all) ≡ r → kept_by wait r ≡ Some stored → IsKept all wait stored
  by None has is = absurd cc
  by (Some value) has is = elim (cases_Bool (waits_by wait value)) [
    | inl it_is ↦
        let same : value ≡ stored = ap (λ (r : Option Stored). or_value r value) (rw it_is at is) in
        let it = holder all wait.2 value has in
        let parts = and_parts _ _ (ap (waits_by wait) (sym same) ∙ it_is) in
        record { placed = it.0; there = it.1; among = it.3; has_value = it.2 ∙ same; at_place = it.4; deadline = eqb-true stored.waits.0 wait.0.0 parts.0; number = eqb-true stored.state.number.0 wait.1.0 parts.1 }
    | inr other ↦ (let none : None ≡ Some stored = rw other at is in absurd cc)
  ]

pub not_kept : (wait : Wait) (r : Option Stored) → kept_by wait r ≡ None → is_kept_by wait r ≡ false
not_kept wait None is = refl
not_kept wait (Some value) is = elim (cases_Bool (waits_by wait value)) [ inl it_is ↦ (let some : Some value ≡ None = rw it_is at is in absurd cc) | inr other ↦ other ]

-- ---- numbers

pub number_absent : (n : StateNumber) (all : List Held) → AreNumbered all → list_any (is_number n) (states_of all) ≡ false → of_number n.0 all ≡ None
number_absent n all numbers none = none_found (is_of_number n.0) all (λ p h. ap (λ (m : ℕ). m == n.0) (numbers p h) ∙ none_of (is_number n) (states_of all) p.value.state none (in_states all p h))

-- ---- comparisons

pub not_later : (a b : ℕ) → is_le (nat_cmp a b) ≡ true → a ≤ b
not_later a b le = elim (cases_order a b) [
  | inl same ↦ omega (arith, same)
  | inr (inl less) ↦ omega arith
  | inr (inr more) ↦ (let is = le-ltb a b (omega arith) in let other = ne_eqb a b (λ same. absurd (omega arith)) in let no_le : false ≡ true = rw (is, other) at le in absurd cc)
]
