-- States at their places, and the indexes of their keys.
use Rattle.std.proofs.Common.{◌≡◌, ◌<◌, ◌+◌, ◌∙◌, ℕ, Bool, true, false, not, nat_lt, ◌⊎◌, List, [], ◌∷◌, Option, Some, None, IfSome, IfNone, sym, refl, ap, subst, inl, inr, arith}
use Rattle.std.specs.List.{Contains, find, list_all, list_any}
use Rattle.std.specs.Option.{option_map}
use Rattle.std.proofs.lemmas.Bool.{and_parts, both_ways, cases_Bool, eq-eqb, eqb-true, false≢true, ltb-true, ne_eqb, not-true}
use Rattle.pfr_index.specs.Index.{Entry, is_same}
use Rattle.pfr_index.specs.declared.hash.Hash.{Hash}
use Rattle.pfr_places.specs.Places.{Placed, at, have_own_places, is_at, is_number as is_of_number, of_number, rise as rise_placed, with_placed, without as without_placed, place_of, value_of}
use Rattle.pfr_places.specs.declared.place.Place.{Place}
use Rattle.pfr_track.specs.declared.key.Key.{Key}
use Rattle.pfr_track.specs.declared.state.State.{State}
use Rattle.pfr_states.specs.declared.change.Side.{Side}
use Rattle.pfr_states.specs.declared.stored.Stored.{Stored}
use Rattle.pfr_states.specs.KeyHash.{hash_of}
use Rattle.pfr_states.specs.Keyed.{AreNumbered, Asks, Decides, IsPlaceOf, entry_of, passes, passes_at, states_of, times_on, total}
use Rattle.pfr_states.specs.States.{is_same_key, key_on}
use Rattle.pfr_states.proofs.FindLemmas.{IsOne, found, found_there, none_any}
use Rattle.pfr_states.proofs.Membership.{here, in_cons, in_none, none_of, there}
use Rattle.pfr_states.proofs.OwnKeys.{key_is}

abbrev pub Held : Type 0
Held = Placed Stored

-- ---- the states

pub in_states : (all : List Held) (p : Held) → Contains all p → Contains (states_of all) p.value.state
in_states [] p h = absurd (in_none p h)
in_states (x ∷ xs) p h = elim (in_cons x xs p h) [
  | inl is ↦ subst (λ (q : Held). Contains (states_of (x ∷ xs)) q.value.state) is (here x.value.state (states_of xs))
  | inr rest ↦ there x.value.state (states_of xs) p.value.state (in_states xs p rest)
]

pub from_states : (all : List Held) (s : State) → Contains (states_of all) s → (p : Held) × Contains all p × (p.value.state ≡ s)
from_states [] s h = absurd (in_none s h)
from_states (x ∷ xs) s h = elim (in_cons x.value.state (states_of xs) s h) [
  | inl is ↦ (x, here x xs, is)
  | inr rest ↦ (let found = from_states xs s rest in (found.0, there x xs found.0 found.1, found.2))
]

-- what is found among the states is that of what is found among the places
pub find_states : (p : State → Bool) (all : List Held) → find p (states_of all) ≡ option_map (λ (q : Held). q.value.state) (find (λ (q : Held). p q.value.state) all)
find_states p [] = refl
find_states p (x ∷ xs) = elim (cases_Bool (p x.value.state)) [ inl it_is ↦ rw it_is refl | inr other ↦ rw other (find_states p xs) ]

-- ---- places

pub one_place : (all : List Held) → have_own_places all ≡ true → (a b : Held) → Contains all a → Contains all b → a.place.0 ≡ b.place.0 → a ≡ b
one_place [] own a b ha hb same = absurd (in_none a ha)
one_place (x ∷ xs) own a b ha hb same =
    let parts = and_parts (not (list_any (is_at x.place) xs)) (have_own_places xs) own in
    let none = not-true (list_any (is_at x.place) xs) parts.0 in
    elim (in_cons x xs a ha) [
      | inl is_a ↦ elim (in_cons x xs b hb) [
        | inl is_b ↦ sym is_a ∙ is_b
        | inr rest_b ↦ absurd (both_ways (is_at x.place b) (none_of (is_at x.place) xs b none rest_b) (eq-eqb b.place.0 x.place.0 (sym same ∙ ap (λ (p : Held). p.place.0) (sym is_a))))
      ]
      | inr rest_a ↦ elim (in_cons x xs b hb) [
        | inl is_b ↦ absurd (both_ways (is_at x.place a) (none_of (is_at x.place) xs a none rest_a) (eq-eqb a.place.0 x.place.0 (same ∙ ap (λ (p : Held). p.place.0) (sym is_b))))
        | inr rest_b ↦ one_place xs parts.1 a b rest_a rest_b same
      ]
    ]

pub one_at : (place : Place) (all : List Held) → have_own_places all ≡ true → IsOne (is_at place) all
one_at place all own = λ a b ha hb is_a is_b. one_place all own a b ha hb (eqb-true a.place.0 place.0 is_a ∙ sym (eqb-true b.place.0 place.0 is_b))

pub at_there : (all : List Held) (p : Held) → have_own_places all ≡ true → Contains all p → at p.place all ≡ Some p
at_there all p own h = found (is_at p.place) all (Some p) (one_at p.place all own) (h, eq-eqb p.place.0 p.place.0 refl)

pub itself : (all : List Held) → have_own_places all ≡ true → (q : Held) → Contains all q → value_of (at q.place all) ≡ Some q.value
itself all own q h = ap (λ (r : Option Held). value_of r) (at_there all q own h)

-- what stands where one was found
pub value_there : (all : List Held) → have_own_places all ≡ true → (test : Held → Bool) (place : Place) → place_of (find test all) ≡ Some place → value_of (at place all) ≡ value_of (find test all)
value_there all own test place is = by (find test all) refl is where
  or_self : Option Place → Place → Place
  or_self None p = p
  or_self (Some q) p = q

  by : (r : Option Held) → find test all ≡ r → place_of r ≡ Some place → value_of (at place all) ≡ value_of r
  by None found is = absurd cc
  by (Some p) found is = subst (λ (q : Place). value_of (at q all) ≡ Some p.value) (ap (λ (r : Option Place). or_self r place) is) (itself all own p (found_there test all p found).0)

-- who stands at a place where something was found
pub record Standing (all : List Held) (test : Held → Bool) (place : Place) (value : Stored) : Type 0 where
  pub placed : Held
  pub found : find test all ≡ Some placed
  pub among : Contains all placed
  pub is_it : test placed ≡ true
  pub there : at place all ≡ Some placed
  pub at_place : placed.place ≡ place
  pub has_value : placed.value ≡ value

pub standing : (all : List Held) → have_own_places all ≡ true → (test : Held → Bool) (place : Place) (value : Stored) → place_of (find test all) ≡ Some place → value_of (at place all) ≡ Some value → Standing all test place value
standing all own test place value is has = by (find test all) refl is where
  or_self : Option Place → Place → Place
  or_self None p = p
  or_self (Some q) p = q

  or_value : Option Stored → Stored → Stored
  or_value None v = v
  or_value (Some w) v = w

  by : (r : Option Held) → find test all ≡ r → place_of r ≡ Some place → Standing all test place value
  by None found is = absurd cc
  by (Some p) found is =
      let same : p.place ≡ place = ap (λ (r : Option Place). or_self r place) is in
      let there : at place all ≡ Some p = subst (λ (q : Place). at q all ≡ Some p) same (at_there all p own (found_there test all p found).0) in
      record {
        placed = p;
        found = found;
        among = (found_there test all p found).0;
        is_it = (found_there test all p found).1;
        there = there;
        at_place = same;
        has_value = ap (λ (r : Option Stored). or_value r value) (sym (ap (λ (r : Option Held). value_of r) there) ∙ has);
      }

-- who has a value at a place
pub holder : (all : List Held) (place : Place) (value : Stored) → value_of (at place all) ≡ Some value → (p : Held) × (at place all ≡ Some p) × (p.value ≡ value) × Contains all p × (p.place.0 ≡ place.0)
holder all place value has = by (at place all) refl has where
  or_value : Option Stored → Stored → Stored
  or_value None v = v
  or_value (Some w) v = w

  by : (r : Option Held) → at place all ≡ r → value_of r ≡ Some value → (p : Held) × (at place all ≡ Some p) × (p.value ≡ value) × Contains all p × (p.place.0 ≡ place.0)
  by None is has = absurd cc
  by (Some p) is has = (let there = found_there (is_at place) all p is in (p, is, ap (λ (r : Option Stored). or_value r value) has, there.0, eqb-true p.place.0 place.0 there.1))

pub placed_there : (all : List Held) → have_own_places all ≡ true → (test : Held → Bool) (place : Place) → place_of (find test all) ≡ Some place → value_of (at place all) ≡ None → ⊥
placed_there all own test place is none = by (find test all) refl is where
  by : (r : Option Held) → find test all ≡ r → place_of r ≡ Some place → ⊥
  by None found is = cc
  by (Some p) found is = (let same = value_there all own test place (ap (λ (r : Option Held). place_of r) found ∙ is) in let some : value_of (find test all) ≡ Some p.value = ap (λ (r : Option Held). value_of r) found in cc)

-- if no state has a number, none is removed
pub none_without : (n : ℕ) (all : List Held) → place_of (of_number n all) ≡ None → all ≡ without_placed n all
none_without n [] none = refl
none_without n (x ∷ xs) none = elim (cases_Bool (is_of_number n x)) [
  | inl it_is ↦ (let some : Some x.place ≡ None = rw it_is at none in absurd cc)
  | inr other ↦ rw other (ap (λ (rest : List Held). x ∷ rest) (none_without n xs (rw other at none)))
]

-- ---- numbers

above_placed : (n : ℕ) (a : Held) (xs : List Held) → list_all (λ (other : Held). nat_lt n other.number) xs ≡ true → Contains xs a → nat_lt n a.number ≡ true
above_placed n a [] all h = absurd (in_none a h)
above_placed n a (y ∷ ys) all h =
    let parts = and_parts (nat_lt n y.number) (list_all (λ (other : Held). nat_lt n other.number) ys) all in
    elim (in_cons y ys a h) [ inl is ↦ ap (λ (p : Held). nat_lt n p.number) (sym is) ∙ parts.0 | inr rest ↦ above_placed n a ys parts.1 rest ]

pub one_placed : (xs : List Held) → rise_placed xs ≡ true → (a b : Held) → Contains xs a → Contains xs b → a.number ≡ b.number → a ≡ b
one_placed [] in_order a b ha hb same = absurd (in_none a ha)
one_placed (x ∷ xs) in_order a b ha hb same =
    let parts = and_parts (list_all (λ (other : Held). nat_lt x.number other.number) xs) (rise_placed xs) in_order in
    elim (in_cons x xs a ha) [
      | inl is_a ↦ elim (in_cons x xs b hb) [
        | inl is_b ↦ sym is_a ∙ is_b
        | inr rest_b ↦ (let above = ltb-true x.number b.number (above_placed x.number b xs parts.0 rest_b) in let first : x.number ≡ a.number = ap (λ (p : Held). p.number) is_a in absurd (omega arith))
      ]
      | inr rest_a ↦ elim (in_cons x xs b hb) [
        | inl is_b ↦ (let above = ltb-true x.number a.number (above_placed x.number a xs parts.0 rest_a) in let first : x.number ≡ b.number = ap (λ (p : Held). p.number) is_b in absurd (omega arith))
        | inr rest_b ↦ one_placed xs parts.1 a b rest_a rest_b same
      ]
    ]

pub one_of : (n : ℕ) (xs : List Held) → rise_placed xs ≡ true → IsOne (is_of_number n) xs
one_of n xs in_order = λ a b ha hb is_a is_b. one_placed xs in_order a b ha hb (eqb-true a.number n is_a ∙ sym (eqb-true b.number n is_b))

pub same_state : (all : List Held) → AreNumbered all → rise_placed all ≡ true → (a b : Held) → Contains all a → Contains all b → a.value.state.number.0 ≡ b.value.state.number.0 → a ≡ b
same_state all numbers in_order a b ha hb same = one_placed all in_order a b ha hb (numbers a ha ∙ same ∙ sym (numbers b hb))

-- ---- keys

same_entry : (e : Entry) → is_same e e ≡ true
same_entry e = rw (eq-eqb e.hash.0 e.hash.0 refl, eq-eqb e.place.0 e.place.0 refl) refl

times_there : (side : Side) (all : List Held) (p : Held) → Contains all p → 0 < times_on side all (entry_of side p)
times_there side [] p h = absurd (in_none p h)
times_there side (x ∷ xs) p h = elim (in_cons x xs p h) [
  | inl is ↦ subst (λ (q : Held). 0 < times_on side (x ∷ xs) (entry_of side q)) is (rw (same_entry (entry_of side x)) (omega arith))
  | inr rest ↦ (let more = times_there side xs p rest in omega arith)
]

-- an entry of a key, at the place of who has it
entry_at : (side : Side) (key : Key) (p : Held) → is_same_key (key_on side p.value.state) key ≡ true → entry_of side p ≡ record { hash = hash_of key; place = p.place }
entry_at side key p it_is = ap (λ (k : Key). entry_by k p) (key_is (key_on side p.value.state) key it_is) where
  entry_by : Key → Held → Entry
  entry_by k p = record { hash = hash_of k; place = p.place }

-- who has a key stands under its hash
pub stands_there : (side : Side) (key : Key) (all : List Held) (p : Held) → Contains all p → is_same_key (key_on side p.value.state) key ≡ true → 0 < times_on side all (record { hash = hash_of key; place = p.place })
stands_there side key all p h has = subst (λ (e : Entry). 0 < times_on side all e) (entry_at side key p has) (times_there side all p h)

-- who stands at a place where a test is passed
pub who_passes : (test : State → Bool) (all : List Held) (place : Place) → passes_at test place all ≡ true → (p : Held) × (at place all ≡ Some p) × Contains all p × (test p.value.state ≡ true)
who_passes test all place passed = by (at place all) refl passed where
  by : (r : Option Held) → at place all ≡ r → passes test r ≡ true → (p : Held) × (at place all ≡ Some p) × Contains all p × (test p.value.state ≡ true)
  by None is passed = absurd (false≢true passed)
  by (Some p) is passed = (p, is, (found_there (is_at place) all p is).0, passed)

-- if no place under a key's hash passes a test that asks for the key, no state does
none_passes : (side : Side) (key : Key) (test : State → Bool) (all : List Held) (times : Entry → ℕ) → ((e : Entry) → times e ≡ times_on side all e) → have_own_places all ≡ true → ((s : State) → test s ≡ true → is_same_key (key_on side s) key ≡ true)
    → ((place : Place) → 0 < times (record { hash = hash_of key; place = place }) → passes_at test place all ≡ false) → list_any test (states_of all) ≡ false
none_passes side key test all times by_key places asks missed = none_any test (states_of all) (λ s h. elim (cases_Bool (test s)) [
  | inl it_is ↦
      let q = from_states all s h in
      let passed : test q.0.value.state ≡ true = ap test q.2 ∙ it_is in
      let entry : Entry = record { hash = hash_of key; place = q.0.place } in
      let count : 0 < times entry = rw (by_key entry) (stands_there side key all q.0 q.1 (asks q.0.value.state passed)) in
      let here : passes_at test q.0.place all ≡ test q.0.value.state = ap (λ (r : Option Held). passes test r) (at_there all q.0 places q.1) in
      absurd (both_ways (test q.0.value.state) (sym here ∙ missed q.0.place count) passed)
  | inr other ↦ other
])

-- a place under a key's hash for which an answer is yes, or none if there is none
pub place_found : (side : Side) (key : Key) (test : State → Bool) (all : List Held) (times : Entry → ℕ) → ((e : Entry) → times e ≡ times_on side all e) → have_own_places all ≡ true → Asks side key test → (answers : Place → Bool → Type 0) → Decides answers test all
    → (hash : Hash) → hash ≡ hash_of key → (found : Option Place) → IfSome found (λ place. (0 < times (record { hash = hash; place = place })) × answers place true) → IfNone found ((place : Place) → 0 < times (record { hash = hash; place = place }) → answers place false)
    → IsPlaceOf test all found
place_found side key test all times by_key places asks answers decides hash is_hash None some none =
    none_passes side key test all times by_key places asks (λ place count. sym (decides place false (none place (subst (λ (h : Hash). 0 < times (record { hash = h; place = place })) (sym is_hash) count))))
place_found side key test all times by_key places asks answers decides hash is_hash (Some place) some none = sym (decides place true some.1)

-- ---- one more

pub total_with : (weight : Held → ℕ) (p : Held) (all : List Held) → total weight (with_placed p all) ≡ weight p + total weight all
total_with weight p [] = refl
total_with weight p (x ∷ xs) = elim (cases_Bool (nat_lt p.number x.number)) [
  | inl before ↦ rw before refl
  | inr behind ↦ rw (behind, total_with weight p xs) (omega arith)
]

pub in_with : (p : Held) (all : List Held) (q : Held) → Contains (with_placed p all) q → (p ≡ q) ⊎ Contains all q
in_with p [] q h = in_cons p [] q h
in_with p (x ∷ xs) q h = elim (cases_Bool (nat_lt p.number x.number)) [
  | inl before ↦ in_cons p (x ∷ xs) q (rw before at h)
  | inr behind ↦ elim (in_cons x (with_placed p xs) q (rw behind at h)) [
    | inl is ↦ inr (subst (λ (r : Held). Contains (x ∷ xs) r) is (here x xs))
    | inr rest ↦ elim (in_with p xs q rest) [ inl is ↦ inl is | inr later ↦ inr (there x xs q later) ]
  ]
]

-- ---- one less

pub total_without : (weight : Held → ℕ) (n : ℕ) (all : List Held) (p : Held) → rise_placed all ≡ true → of_number n all ≡ Some p → total weight all ≡ weight p + total weight (without_placed n all)
total_without weight n [] p in_order is = absurd cc
total_without weight n (x ∷ xs) p in_order is =
    let parts = and_parts (list_all (λ (other : Held). nat_lt x.number other.number) xs) (rise_placed xs) in_order in
    elim (cases_Bool (is_of_number n x)) [
      | inl it_is ↦
          let same : x ≡ p = ap (λ (r : Option Held). or_self r x) (rw it_is at is) in
          let others : without_placed n xs ≡ xs = kept_all n xs (λ q h. (let above = ltb-true x.number q.number (above_placed x.number q xs parts.0 h) in let level = eqb-true x.number n it_is in ne_eqb q.number n (λ equal. absurd (omega arith)))) in
          rw (it_is, others, ← same) refl
      | inr other ↦ rw other (let rest = total_without weight n xs p parts.1 (rw other at is) in rw rest (omega arith))
    ] where
      or_self : Option Held → Held → Held
      or_self None x = x
      or_self (Some y) x = y

      kept_all : (n : ℕ) (xs : List Held) → ((q : Held) → Contains xs q → is_of_number n q ≡ false) → without_placed n xs ≡ xs
      kept_all n [] none = refl
      kept_all n (y ∷ ys) none = rw (none y (here y ys)) (ap (λ (zs : List Held). y ∷ zs) (kept_all n ys (λ q h. none q (there y ys q h))))
