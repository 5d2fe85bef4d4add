-- What a made state leaves of a table.
use Rattle.std.proofs.Common.{◌≡◌, ◌≤◌, ◌<◌, ◌+◌, ℕ, Bool, true, false, not, nat_lt, List, [], ◌∷◌, length, refl, ap, ◌∙◌, inl, inr, arith}
use Rattle.std.specs.List.{list_all, list_any}
use Rattle.std.proofs.lemmas.Bool.{and_parts, and_from, or_parts, cases_order, not-true, lt-ltb, le-ltb, ltb-true, ne_eqb, eq-eqb}
use Rattle.pfr_track.specs.declared.state.State.{State}
use Rattle.pfr_states.specs.States.{IsTable, rise, are_above, have_own_keys, shares_key, with_state}
use Rattle.pfr_states.proofs.KeyLemmas.{shares_turned}

-- ---- a state in its place

pub with_before : (s x : State) (xs : List State) → s.number.0 < x.number.0 → with_state s (x ∷ xs) ≡ s ∷ x ∷ xs
with_before s x xs before = rw (lt-ltb s.number.0 x.number.0 before) refl

pub with_over : (s x : State) (xs : List State) → x.number.0 ≡ s.number.0 → with_state s (x ∷ xs) ≡ s ∷ xs
with_over s x xs is = rw (le-ltb s.number.0 x.number.0 (omega arith), eq-eqb x.number.0 s.number.0 is) refl

pub with_behind : (s x : State) (xs : List State) → x.number.0 < s.number.0 → with_state s (x ∷ xs) ≡ x ∷ with_state s xs
with_behind s x xs behind = rw (le-ltb s.number.0 x.number.0 (omega arith), ne_eqb x.number.0 s.number.0 (λ is. absurd (omega arith))) refl

-- ---- a table

all_with : (n : ℕ) (s : State) (xs : List State) → nat_lt n s.number.0 ≡ true → list_all (λ (x : State). nat_lt n x.number.0) xs ≡ true → list_all (λ (x : State). nat_lt n x.number.0) (with_state s xs) ≡ true
all_with n s [] it all = rw it refl
all_with n s (x ∷ xs) it all =
    let parts = and_parts (nat_lt n x.number.0) (list_all (λ (x : State). nat_lt n x.number.0) xs) all in
    elim (cases_order x.number.0 s.number.0) [
      | inl same ↦ rw (with_over s x xs same, it) parts.1
      | inr (inl behind) ↦ rw (with_behind s x xs behind, parts.0) (all_with n s xs it parts.1)
      | inr (inr before) ↦ rw (with_before s x xs before, it) all
    ]

all_lower : (m n : ℕ) (xs : List State) → m ≤ n → list_all (λ (x : State). nat_lt n x.number.0) xs ≡ true → list_all (λ (x : State). nat_lt m x.number.0) xs ≡ true
all_lower m n [] low all = refl
all_lower m n (x ∷ xs) low all =
    let parts = and_parts (nat_lt n x.number.0) (list_all (λ (x : State). nat_lt n x.number.0) xs) all in
    let above = ltb-true n x.number.0 parts.0 in
    rw (lt-ltb m x.number.0 (omega arith)) (all_lower m n xs low parts.1)

pub rise_with : (s : State) (xs : List State) → rise xs ≡ true → rise (with_state s xs) ≡ true
rise_with s [] in_order = refl
rise_with s (x ∷ xs) in_order =
    let parts = and_parts (are_above x xs) (rise xs) in_order in
    elim (cases_order x.number.0 s.number.0) [
      | inl same ↦ rw (with_over s x xs same) (and_from (are_above s xs) (rise xs) (all_lower s.number.0 x.number.0 xs (omega arith) parts.0) parts.1)
      | inr (inl behind) ↦ rw (with_behind s x xs behind) (and_from (are_above x (with_state s xs)) (rise (with_state s xs)) (all_with x.number.0 s xs (lt-ltb x.number.0 s.number.0 behind) parts.0) (rise_with s xs parts.1))
      | inr (inr before) ↦
          let above : are_above s (x ∷ xs) ≡ true = rw (lt-ltb s.number.0 x.number.0 before) (all_lower s.number.0 x.number.0 xs (omega arith) parts.0) in
          rw (with_before s x xs before) (and_from (are_above s (x ∷ xs)) (rise (x ∷ xs)) above in_order)
    ]

none_with : (p : State → Bool) (s : State) (xs : List State) → p s ≡ false → list_any p xs ≡ false → list_any p (with_state s xs) ≡ false
none_with p s [] it none = rw it refl
none_with p s (x ∷ xs) it none =
    let parts = or_parts (p x) (list_any p xs) none in
    elim (cases_order x.number.0 s.number.0) [
      | inl same ↦ rw (with_over s x xs same, it) parts.1
      | inr (inl behind) ↦ rw (with_behind s x xs behind, parts.0) (none_with p s xs it parts.1)
      | inr (inr before) ↦ rw (with_before s x xs before, it) none
    ]

pub own_with : (s : State) (xs : List State) → have_own_keys xs ≡ true → list_any (shares_key s) xs ≡ false → have_own_keys (with_state s xs) ≡ true
own_with s [] own none = refl
own_with s (x ∷ xs) own none =
    let owns = and_parts (not (list_any (shares_key x) xs)) (have_own_keys xs) own in
    let nones = or_parts (shares_key s x) (list_any (shares_key s) xs) none in
    elim (cases_order x.number.0 s.number.0) [
      | inl same ↦ rw (with_over s x xs same) (and_from (not (list_any (shares_key s) xs)) (have_own_keys xs) (ap not nones.1) owns.1)
      | inr (inl behind) ↦
          let none_of : list_any (shares_key x) (with_state s xs) ≡ false = none_with (shares_key x) s xs (shares_turned x s ∙ nones.0) (not-true (list_any (shares_key x) xs) owns.0) in
          rw (with_behind s x xs behind) (and_from (not (list_any (shares_key x) (with_state s xs))) (have_own_keys (with_state s xs)) (ap not none_of) (own_with s xs owns.1 nones.1))
      | inr (inr before) ↦ rw (with_before s x xs before) (and_from (not (list_any (shares_key s) (x ∷ xs))) (have_own_keys (x ∷ xs)) (ap not none) own)
    ]

length_with : (s : State) (xs : List State) → length (with_state s xs) ≤ length xs + 1
length_with s [] = omega arith
length_with s (x ∷ xs) = elim (cases_order x.number.0 s.number.0) [
  | inl same ↦ rw (with_over s x xs same) (omega arith)
  | inr (inl behind) ↦ rw (with_behind s x xs behind) (let rest = length_with s xs in omega arith)
  | inr (inr before) ↦ rw (with_before s x xs before) (omega arith)
]

pub table_with : (s : State) (states : List State) (limit : ℕ) → list_any (shares_key s) states ≡ false → length states < limit → IsTable (record { states = states; limit = limit })
    → IsTable (record { states = with_state s states; limit = limit })
table_with s states limit none room table = record {
  in_order = rise_with s states table.in_order;
  own_keys = own_with s states table.own_keys none;
  few = (let length = length_with s states in omega arith);
}
