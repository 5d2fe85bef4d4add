-- The least number of the states that are found, by going through the places under a key's hash.
use Rattle.std.proofs.Common.{◌≡◌, ◌<◌, ◌≤◌, ◌⊎◌, ◌∙◌, ℕ, Bool, true, nat_lt, List, [], ◌∷◌, Option, Some, None, sym, refl, ap, subst, inl, inr, arith}
use Rattle.std.specs.List.{Contains, FoldsTo, find}
use Rattle.std.specs.Option.{option_map}
use Rattle.std.proofs.lemmas.Bool.{and_from, and_parts, both_ways, cases_Bool, ltb-false, ltb-true}
use Rattle.pfr_index.specs.Index.{Entry}
use Rattle.pfr_index.specs.Folds.{FoldsUnder}
use Rattle.pfr_index.specs.declared.hash.Hash.{Hash}
use Rattle.pfr_places.specs.Places.{at, have_own_places, is_at}
use Rattle.pfr_places.specs.declared.place.Place.{Place}
use Rattle.pfr_net.specs.declared.interface.Binding.{Binding}
use Rattle.pfr_net.specs.Interfaces.{meets}
use Rattle.pfr_track.specs.declared.key.Key.{Key}
use Rattle.pfr_track.specs.declared.state.State.{State}
use Rattle.pfr_track.specs.declared.state.StateNumber.{StateNumber}
use Rattle.pfr_track.specs.declared.time.Clock.{Clock}
use Rattle.pfr_states.specs.declared.change.Side.{Side}
use Rattle.pfr_states.specs.KeyHash.{hash_of}
use Rattle.pfr_states.specs.Indexed.{is_found_alive, lesser, number_at}
use Rattle.pfr_states.specs.Keyed.{number_if, states_of, times_on}
use Rattle.pfr_states.specs.States.{is_found, is_same_key, key_on, lives, purged, rise}
use Rattle.pfr_states.proofs.FilterLemmas.{rise_filter}
use Rattle.pfr_states.proofs.FindLemmas.{found_least, found_none, found_there}
use Rattle.pfr_states.proofs.KeyedLemmas.{Held, at_there, from_states, in_states, stands_there}
use Rattle.pfr_states.proofs.Membership.{from_filter, here, in_cons, in_none, there, to_filter}

-- ---- the lesser of two

-- a number is there, and it is at most this
abbrev AtMost : Option StateNumber → ℕ → Type 0
AtMost None n = ⊥
AtMost (Some number) n = number.0 ≤ n

least_left : (a b : Option StateNumber) (n : ℕ) → AtMost a n → AtMost (lesser a b) n
least_left None b n most = absurd most
least_left (Some x) None n most = most
least_left (Some x) (Some y) n most = elim (cases_Bool (nat_lt y.0 x.0)) [
  | inl less ↦ (let below = ltb-true y.0 x.0 less in rw less (omega arith))
  | inr other ↦ rw other most
]

least_right : (a b : Option StateNumber) (n : ℕ) → AtMost b n → AtMost (lesser a b) n
least_right None b n most = most
least_right (Some x) None n most = absurd most
least_right (Some x) (Some y) n most = elim (cases_Bool (nat_lt y.0 x.0)) [
  | inl less ↦ rw less most
  | inr other ↦ (let above = ltb-false y.0 x.0 other in rw other (omega arith))
]

one_of_two : (a b : Option StateNumber) (l : StateNumber) → lesser a b ≡ Some l → (a ≡ Some l) ⊎ (b ≡ Some l)
one_of_two None b l is = inr is
one_of_two (Some x) None l is = inl is
one_of_two (Some x) (Some y) l is = elim (cases_Bool (nat_lt y.0 x.0)) [ inl less ↦ inr (rw less at is) | inr other ↦ inl (rw other at is) ]

-- ---- what is gone through

module _ {P : Type 0} (R : Option StateNumber → P → Option StateNumber → Type 0) (number_of : P → Option StateNumber) (steps : (before : Option StateNumber) (place : P) (after : Option StateNumber) → R before place after → after ≡ lesser before (number_of place)) where
  from_start : (start last : Option StateNumber) (places : List P) (n : ℕ) → FoldsTo R start places last → AtMost start n → AtMost last n
  from_start start last [] n so most = subst (λ (r : Option StateNumber). AtMost r n) so most
  from_start start last (place ∷ places) n so most = from_start so.0 last places n so.2 (subst (λ (r : Option StateNumber). AtMost r n) (sym (steps start place so.0 so.1)) (least_left start (number_of place) n most))

  at_most : (start last : Option StateNumber) (places : List P) (n : ℕ) → FoldsTo R start places last → (place : P) → Contains places place → AtMost (number_of place) n → AtMost last n
  at_most start last [] n so place h most = absurd (in_none place h)
  at_most start last (x ∷ xs) n so place h most = elim (in_cons x xs place h) [
    | inl is ↦ from_start so.0 last xs n so.2 (subst (λ (r : Option StateNumber). AtMost r n) (sym (steps start x so.0 so.1)) (least_right start (number_of x) n (subst (λ (p : P). AtMost (number_of p) n) (sym is) most)))
    | inr rest ↦ at_most so.0 last xs n so.2 place rest most
  ]

  one_of_all : (start last : Option StateNumber) (places : List P) (l : StateNumber) → FoldsTo R start places last → last ≡ Some l → (start ≡ Some l) ⊎ ((place : P) × Contains places place × (number_of place ≡ Some l))
  one_of_all start last [] l so is = inl (so ∙ is)
  one_of_all start last (x ∷ xs) l so is = elim (one_of_all so.0 last xs l so.2 is) [
    | inl before ↦ elim (one_of_two start (number_of x) l (sym (steps start x so.0 so.1) ∙ before)) [ inl first ↦ inl first | inr this ↦ inr (x, here x xs, this) ]
    | inr found ↦ inr (found.0, there x xs found.0 found.1, found.2)
  ]

-- ---- the least number that passes a test

abbrev number_by : ℕ → StateNumber
number_by n = record { 0 = n }

pub is_least : (p : State → Bool) (xs : List State) (r : Option StateNumber) → rise xs ≡ true → ((a : State) → Contains xs a → p a ≡ true → AtMost r a.number.0) → ((l : StateNumber) → r ≡ Some l → (a : State) × Contains xs a × (p a ≡ true) × (a.number ≡ l))
    → r ≡ option_map (λ state. state.number) (find p xs)
is_least p xs r in_order most there = by r (find p xs) refl refl where
  by : (q : Option StateNumber) (found : Option State) → r ≡ q → find p xs ≡ found → q ≡ option_map (λ state. state.number) found
  by None None is_r is = refl
  by (Some l) None is_r is = (let a = there l is_r in absurd (both_ways (p a.0) (found_none p xs is a.0 a.1) a.2))
  by None (Some x) is_r is = (let h = found_there p xs x is in absurd (subst (λ (q : Option StateNumber). AtMost q x.number.0) is_r (most x h.0 h.1)))
  by (Some l) (Some x) is_r is =
      let h = found_there p xs x is in
      let below : l.0 ≤ x.number.0 = subst (λ (q : Option StateNumber). AtMost q x.number.0) is_r (most x h.0 h.1) in
      let a = there l is_r in
      let above = found_least p xs x in_order is a.0 a.1 a.2 in
      let level : a.0.number.0 ≡ l.0 = ap (λ (n : StateNumber). n.0) a.3 in
      let same : l.0 ≡ x.number.0 = omega (arith, below, above, level) in
      ap (λ (n : ℕ). Some (number_by n)) same

-- ---- by an index

number_passes : (test : State → Bool) (p : Held) → test p.value.state ≡ true → AtMost (number_if test (Some p)) p.value.state.number.0
number_passes test p passed = rw passed (omega arith)

passes_so : (test : State → Bool) (r : Option Held) (l : StateNumber) → number_if test r ≡ Some l → (p : Held) × (r ≡ Some p) × (test p.value.state ≡ true) × (p.value.state.number ≡ l)
passes_so test None l is = absurd cc
passes_so test (Some p) l is = elim (cases_Bool (test p.value.state)) [
  | inl it_is ↦ (p, refl, it_is, ap (λ (r : Option StateNumber). or_number r l) (rw it_is at is))
  | inr other ↦ (let none : None ≡ Some l = rw other at is in absurd cc)
] where
  or_number : Option StateNumber → StateNumber → StateNumber
  or_number None n = n
  or_number (Some m) n = m

pub least_number : (side : Side) (key : Key) (hash : Hash) (scope : Binding) (clock : Clock) (all : List Held) (times : Entry → ℕ) → hash ≡ hash_of key → ((e : Entry) → times e ≡ times_on side all e) → have_own_places all ≡ true → rise (states_of all) ≡ true
    → (R : Option StateNumber → Place → Option StateNumber → Type 0) → ((before : Option StateNumber) (place : Place) (after : Option StateNumber) → R before place after → after ≡ lesser before (number_if (is_found_alive side key scope clock) (at place all)))
    → (r : Option StateNumber) → FoldsUnder R None hash times r → r ≡ number_at side key scope (purged clock (states_of all))
least_number side key hash scope clock all times is_hash by_key places in_order R steps r folds =
    is_least (is_found side key scope) (purged clock (states_of all)) r (rise_filter (lives clock) (states_of all) in_order)
    (λ a h found.
    let parts = from_filter (lives clock) (states_of all) a h in
    let q = from_states all a parts.0 in
    let found_q : is_found side key scope q.0.value.state ≡ true = ap (is_found side key scope) q.2 ∙ found in
    let alive_q : lives clock q.0.value.state ≡ true = ap (lives clock) q.2 ∙ parts.1 in
    let has = (and_parts (is_same_key (key_on side q.0.value.state) key) (meets q.0.value.state.rules.binding scope) found_q).0 in
    let entry : Entry = record { hash = hash_of key; place = q.0.place } in
    let count : 0 < times entry = rw (by_key entry) (stands_there side key all q.0 q.1 has) in
    let under : 0 < times (record { hash = hash; place = q.0.place }) = subst (λ (h : Hash). 0 < times (record { hash = h; place = q.0.place })) (sym is_hash) count in
    let number : AtMost (number_if alive (at q.0.place all)) q.0.value.state.number.0 = subst (λ (s : Option Held). AtMost (number_if alive s) q.0.value.state.number.0) (sym (at_there all q.0 places q.1)) (number_passes alive q.0 (and_from (is_found side key scope q.0.value.state) (lives clock q.0.value.state) found_q alive_q)) in
    subst (λ (s : State). AtMost r s.number.0) q.2 (at_most R number_of steps None r folds.places q.0.value.state.number.0 folds.folds q.0.place (folds.all q.0.place under) number))
    (λ l is. elim (one_of_all R number_of steps None r folds.places l folds.folds is) [
      | inl none ↦ absurd cc
      | inr some ↦
          let p = passes_so alive (at some.0 all) l some.2 in
          let parts = and_parts (is_found side key scope p.0.value.state) (lives clock p.0.value.state) p.2 in
          let among = (found_there (is_at some.0) all p.0 p.1).0 in
          (p.0.value.state, to_filter (lives clock) (states_of all) p.0.value.state (in_states all p.0 among) parts.1, parts.0, p.3)
    ]) where
      alive : State → Bool
      alive state = is_found_alive side key scope clock state

      number_of : Place → Option StateNumber
      number_of place = number_if alive (at place all)
