-- What stands where entries say.
use Rattle.std.proofs.Common.{◌≡◌, ◌==◌, ◌||◌, ◌≤◌, ℕ, suc, Bool, true, false, cond, not, nat_lt, is_some, List, [], ◌∷◌, ◌++◌, length, Option, Some, None, sym, refl, ap, ◌∙◌, subst, inl, inr, arith}
use Rattle.std.specs.List.{filter, find, list_all, list_any}
use Rattle.std.proofs.lemmas.Bool.{and_from, and_parts, both_ways, cases_Bool, cases_eq, eq-eqb, le-ltb, ltb-true, ne_eqb, or_from, or_left, or_parts, or_right, true≢false}
use Rattle.pfr_places.specs.declared.order.Ordered.{Ordered}
use Rattle.pfr_places.specs.declared.place.Place.{Place}
use Rattle.pfr_places.specs.Places.{at, have_own_places, is_at, rise, value_of, with_placed, with_value, Placed}
use Rattle.pfr_places.specs.Standing.{is_above, is_entry_at, is_index, numbers_rise, placed_at, placed_of, placed_with, standing, with_first, HaveOwnIndexes}

-- ---- lists

pub all_weaker : {X : Type 0} (p q : X → Bool) (xs : List X) → ((x : X) → p x ≡ true → q x ≡ true) → list_all p xs ≡ true → list_all q xs ≡ true
all_weaker p q [] weaker all = refl
all_weaker p q (x ∷ xs) weaker all =
    let parts = and_parts (p x) (list_all p xs) all in
    and_from (q x) (list_all q xs) (weaker x parts.0) (all_weaker p q xs weaker parts.1)

pub all_kept : {X : Type 0} (p : X → Bool) (xs : List X) → list_all p xs ≡ true → filter p xs ≡ xs
all_kept p [] all = refl
all_kept p (x ∷ xs) all =
    let parts = and_parts (p x) (list_all p xs) all in
    rw parts.0 (ap (λ (rest : List _). x ∷ rest) (all_kept p xs parts.1))

-- what passes is behind those that don't
pub find_behind : {X : Type 0} (p : X → Bool) (xs ys : List X) → list_all (λ x. not (p x)) xs ≡ true → find p (xs ++ ys) ≡ find p ys
find_behind p [] ys none = refl
find_behind p (x ∷ xs) ys none =
    let parts = and_parts (not (p x)) (list_all (λ x. not (p x)) xs) none in
    elim (cases_Bool (p x)) [
      | inl it_is ↦ absurd (both_ways (not (p x)) (ap not it_is) parts.0)
      | inr not_it ↦ rw not_it (find_behind p xs ys parts.1)
    ]

pub find_nothing : {X : Type 0} (p : X → Bool) (xs : List X) → list_all (λ x. not (p x)) xs ≡ true → find p xs ≡ None
find_nothing p [] none = refl
find_nothing p (x ∷ xs) none =
    let parts = and_parts (not (p x)) (list_all (λ x. not (p x)) xs) none in
    elim (cases_Bool (p x)) [
      | inl it_is ↦ absurd (both_ways (not (p x)) (ap not it_is) parts.0)
      | inr not_it ↦ rw not_it (find_nothing p xs parts.1)
    ]

module _ {T : Type 0} where
  -- what stands where an entry says is nothing, or what the slab has there
  placed_cases : (P : Option (Placed T) → Type 0) (holds : ℕ → Option T) (number : ℕ) (place : Option Place) → P None
      → ((p : Place) (v : T) → place ≡ Some p → holds p.0 ≡ Some v → P (Some (record { number = number; place = p; value = v }))) → P (placed_at holds number place)
  placed_cases P holds number None none some = none
  placed_cases P holds number (Some p) none some = held_cases (holds p.0) refl where
    held_cases : (o : Option T) → holds p.0 ≡ o → P (placed_with number p o)
    held_cases None is = none
    held_cases (Some v) is = some p v refl is

  -- ---- numbers

  abbrev numbers_pass : (ℕ → Bool) → List (Placed T) → Bool
  numbers_pass f placed = list_all (λ x. f x.number) placed

  pub all_standing : (f : ℕ → Bool) (holds : ℕ → Option T) (es : List Ordered) → list_all (λ e. f e.number) es ≡ true → numbers_pass f (standing holds es) ≡ true
  all_standing f holds [] all = refl
  all_standing f holds (e ∷ es) all =
      let parts = and_parts (f e.number) (list_all (λ e. f e.number) es) all in
      let others = all_standing f holds es parts.1 in
      placed_cases (λ r. numbers_pass f (with_first r (standing holds es)) ≡ true) holds e.number e.place others (λ p v _ _. and_from (f e.number) (numbers_pass f (standing holds es)) parts.0 others)

  pub rise_standing : (holds : ℕ → Option T) (es : List Ordered) → numbers_rise es ≡ true → rise (standing holds es) ≡ true
  rise_standing holds [] in_order = refl
  rise_standing holds (e ∷ es) in_order =
      let parts = and_parts (list_all (is_above e.number) es) (numbers_rise es) in_order in
      let others = rise_standing holds es parts.1 in
      placed_cases (λ r. rise (with_first r (standing holds es)) ≡ true) holds e.number e.place others
      (λ p v _ _. and_from (numbers_pass (nat_lt e.number) (standing holds es)) (rise (standing holds es)) (all_standing (nat_lt e.number) holds es parts.0) others)

  -- ---- places

  none_at : (holds : ℕ → Option T) (place : Place) (es : List Ordered) → list_any (is_entry_at place.0) es ≡ false → list_any (is_at place) (standing holds es) ≡ false
  none_at holds place [] none = refl
  none_at holds place (e ∷ es) none =
      let parts = or_parts (is_entry_at place.0 e) (list_any (is_entry_at place.0) es) none in
      let others = none_at holds place es parts.1 in
      placed_cases (λ r. list_any (is_at place) (with_first r (standing holds es)) ≡ false) holds e.number e.place others
      (λ p v there _. or_from (p.0 == place.0) (list_any (is_at place) (standing holds es)) (subst (λ (o : Option Place). is_index place.0 o ≡ false) there parts.0) others)

  pub own_standing : (holds : ℕ → Option T) (es : List Ordered) → HaveOwnIndexes es → have_own_places (standing holds es) ≡ true
  own_standing holds [] own = refl
  own_standing holds (e ∷ es) own =
      let others = own_standing holds es own.1 in
      placed_cases (λ r. have_own_places (with_first r (standing holds es)) ≡ true) holds e.number e.place others
      (λ p v there _. and_from (not (list_any (is_at p) (standing holds es))) (have_own_places (standing holds es))
      (ap not (none_at holds p es (own.0 p.0 (subst (λ (o : Option Place). is_index p.0 o ≡ true) (sym there) (eq-eqb p.0 p.0 refl))))) others)

  pub nothing_at : (holds : ℕ → Option T) (place : Place) (es : List Ordered) → list_any (is_entry_at place.0) es ≡ false → at place (standing holds es) ≡ None
  nothing_at holds place [] none = refl
  nothing_at holds place (e ∷ es) none =
      let parts = or_parts (is_entry_at place.0 e) (list_any (is_entry_at place.0) es) none in
      let others = nothing_at holds place es parts.1 in
      placed_cases (λ r. at place (with_first r (standing holds es)) ≡ None) holds e.number e.place others
      (λ p v there _. (let apart : (p.0 == place.0) ≡ false = subst (λ (o : Option Place). is_index place.0 o ≡ false) there parts.0 in rw apart others))

  -- what stands at a place that an entry says
  there_with : (holds : ℕ → Option T) (place : Place) (number : ℕ) (p : Place) (o : Option T) (others : List (Placed T)) (b : Bool) → holds p.0 ≡ o → value_of (at place others) ≡ cond b (holds place.0) None
      → value_of (at place (with_first (placed_with number p o) others)) ≡ cond ((p.0 == place.0) || b) (holds place.0) None
  there_with holds place number p None others b is rest = elim (cases_eq p.0 place.0) [
    | inl same ↦
        let empty : holds place.0 ≡ None = ap holds (sym same) ∙ is in
        rw (eq-eqb p.0 place.0 same, empty) (rest ∙ nothing b (holds place.0) empty)
    | inr other ↦ rw (ne_eqb p.0 place.0 other) rest
  ] where
    nothing : (b : Bool) (o : Option T) → o ≡ None → cond b o None ≡ None
    nothing true o is = is
    nothing false o is = refl
  there_with holds place number p (Some v) others b is rest = elim (cases_eq p.0 place.0) [
    | inl same ↦ rw (eq-eqb p.0 place.0 same) (sym (ap holds (sym same) ∙ is))
    | inr other ↦ rw (ne_eqb p.0 place.0 other) rest
  ]

  there_at : (holds : ℕ → Option T) (place : Place) (number : ℕ) (where_to : Option Place) (others : List (Placed T)) (b : Bool) → value_of (at place others) ≡ cond b (holds place.0) None
      → value_of (at place (with_first (placed_at holds number where_to) others)) ≡ cond (is_index place.0 where_to || b) (holds place.0) None
  there_at holds place number None others b rest = rest
  there_at holds place number (Some p) others b rest = there_with holds place number p (holds p.0) others b refl rest

  pub at_standing : (holds : ℕ → Option T) (place : Place) (es : List Ordered) → value_of (at place (standing holds es)) ≡ cond (list_any (is_entry_at place.0) es) (holds place.0) None
  at_standing holds place [] = refl
  at_standing holds place (e ∷ es) = there_at holds place e.number e.place (standing holds es) (list_any (is_entry_at place.0) es) (at_standing holds place es)

  -- ---- parts

  pub standing_append : (holds : ℕ → Option T) (es fs : List Ordered) → standing holds (es ++ fs) ≡ standing holds es ++ standing holds fs
  standing_append holds [] fs = refl
  standing_append holds (e ∷ es) fs = placed_cases (λ r. with_first r (standing holds (es ++ fs)) ≡ with_first r (standing holds es) ++ standing holds fs) holds e.number e.place (standing_append holds es fs)
      (λ p v _ _. ap (λ (rest : List (Placed T)). record { number = e.number; place = p; value = v } ∷ rest) (standing_append holds es fs))

  pub few_standing : (holds : ℕ → Option T) (es : List Ordered) → length (standing holds es) ≤ length es
  few_standing holds [] = omega arith
  few_standing holds (e ∷ es) =
      let rest = few_standing holds es in
      placed_cases (λ r. length (with_first r (standing holds es)) ≤ suc (length es)) holds e.number e.place (omega arith) (λ p v _ _. omega arith)

  -- ---- another slab

  placed_same : (old new : ℕ → Option T) (number : ℕ) (place : Option Place) → ((index : ℕ) → is_index index place ≡ true → new index ≡ old index) → placed_at new number place ≡ placed_at old number place
  placed_same old new number None same = refl
  placed_same old new number (Some p) same = ap (placed_with number p) (same p.0 (eq-eqb p.0 p.0 refl))

  -- if it has the same at the indexes that entries say, the same stands there
  pub standing_same : (old new : ℕ → Option T) (es : List Ordered) → ((index : ℕ) → list_any (is_entry_at index) es ≡ true → new index ≡ old index) → standing new es ≡ standing old es
  standing_same old new [] same = refl
  standing_same old new (e ∷ es) same =
      ap (λ (r : Option (Placed T)). with_first r (standing new es)) (placed_same old new e.number e.place (λ index it. same index (or_left (is_entry_at index e) (list_any (is_entry_at index) es) it)))
      ∙ ap (λ (rest : List (Placed T)). with_first (placed_of old e) rest) (standing_same old new es (λ index it. same index (or_right (is_entry_at index e) (list_any (is_entry_at index) es) it)))

  -- a slab that has something else at one index
  abbrev pub Changes : ℕ → Option T → (ℕ → Option T) → (ℕ → Option T) → Type 0
  Changes at value old new = (index : ℕ) → new index ≡ cond (index == at) value (old index)

  pub standing_apart : (at : ℕ) (value : Option T) (old new : ℕ → Option T) (es : List Ordered) → Changes at value old new → list_any (is_entry_at at) es ≡ false → standing new es ≡ standing old es
  standing_apart at value old new es changes none = standing_same old new es (λ index it. elim (cases_eq index at) [
    | inl same ↦ absurd (both_ways (list_any (is_entry_at index) es) (ap (λ (i : ℕ). list_any (is_entry_at i) es) same ∙ none) it)
    | inr other ↦ changes index ∙ ap (λ (b : Bool). cond b value (old index)) (ne_eqb index at other)
  ])

  -- ---- a further one

  pub with_behind : (x : Placed T) (xs ys : List (Placed T)) → numbers_pass (λ n. nat_lt n x.number) xs ≡ true → with_placed x (xs ++ ys) ≡ xs ++ with_placed x ys
  with_behind x [] ys all = refl
  with_behind x (y ∷ xs) ys all =
      let parts = and_parts (nat_lt y.number x.number) (numbers_pass (λ n. nat_lt n x.number) xs) all in
      let below = ltb-true y.number x.number parts.0 in
      rw (le-ltb x.number y.number (omega arith)) (ap (λ (rest : List (Placed T)). y ∷ rest) (with_behind x xs ys parts.1))

  pub with_before : (x : Placed T) (xs : List (Placed T)) → numbers_pass (nat_lt x.number) xs ≡ true → with_placed x xs ≡ x ∷ xs
  with_before x [] all = refl
  with_before x (y ∷ xs) all = rw (and_parts (nat_lt x.number y.number) (numbers_pass (nat_lt x.number) xs) all).0 refl

  -- ---- another value

  valued_with : (at : Place) (value : T) (number : ℕ) (p : Place) (o : Option T) (others : List (Placed T)) → (p.0 ≡ at.0 → is_some o ≡ true)
      → with_first (placed_with number p (cond (p.0 == at.0) (Some value) o)) (with_value at value others) ≡ with_value at value (with_first (placed_with number p o) others)
  valued_with at value number p None others full = elim (cases_eq p.0 at.0) [ inl same ↦ absurd (true≢false (sym (full same))) | inr other ↦ rw (ne_eqb p.0 at.0 other) refl ]
  valued_with at value number p (Some v) others full = elim (cases_eq p.0 at.0) [ inl same ↦ rw (eq-eqb p.0 at.0 same) refl | inr other ↦ rw (ne_eqb p.0 at.0 other) refl ]

  valued_at : (at : Place) (value : T) (old new : ℕ → Option T) (number : ℕ) (place : Option Place) (others : List (Placed T)) → Changes at.0 (Some value) old new → is_some (old at.0) ≡ true
      → with_first (placed_at new number place) (with_value at value others) ≡ with_value at value (with_first (placed_at old number place) others)
  valued_at at value old new number None others changes full = refl
  valued_at at value old new number (Some p) others changes full =
      ap (λ (o : Option T). with_first (placed_with number p o) (with_value at value others)) (changes p.0) ∙ valued_with at value number p (old p.0) others (λ same. ap (λ (i : ℕ). is_some (old i)) same ∙ full)

  pub valued_standing : (at : Place) (value : T) (old new : ℕ → Option T) (es : List Ordered) → Changes at.0 (Some value) old new → is_some (old at.0) ≡ true → standing new es ≡ with_value at value (standing old es)
  valued_standing at value old new [] changes full = refl
  valued_standing at value old new (e ∷ es) changes full =
      ap (λ (rest : List (Placed T)). with_first (placed_of new e) rest) (valued_standing at value old new es changes full) ∙ valued_at at value old new e.number e.place (standing old es) changes full

  pub with_none : (place : Place) (value : T) (xs : List (Placed T)) → at place xs ≡ None → with_value place value xs ≡ xs
  with_none place value [] none = refl
  with_none place value (x ∷ xs) none = elim (cases_Bool (is_at place x)) [
    | inl it_is ↦ absurd cc
    | inr not_it ↦ rw not_it (ap (λ (rest : List (Placed T)). x ∷ rest) (with_none place value xs (rw not_it at none)))
  ]
