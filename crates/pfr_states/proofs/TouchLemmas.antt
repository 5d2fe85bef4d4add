-- What a touched state leaves of a table.
use Rattle.std.proofs.Common.{◌≡◌, ◌&&◌, ℕ, Bool, true, false, if◌then◌else◌, not, nat_lt, List, [], ◌∷◌, sym, refl, ap, ◌∙◌, subst, inl, inr, arith}
use Rattle.std.specs.List.{list_all, list_any}
use Rattle.std.proofs.lemmas.Bool.{and_parts, and_from, or_parts, or_from, cases_Bool, not-true, ltb-true, eqb-true, ne_eqb}
use Rattle.std.proofs.lemmas.List.{length-map}
use Rattle.pfr_track.specs.declared.state.State.{State}
use Rattle.pfr_states.specs.States.{IsTable, rise, are_above, have_own_keys, shares_key, is_number, with_touched}
use Rattle.pfr_states.proofs.KeyLemmas.{shares_turned}

-- a state, or the touched one in its place
abbrev in_place : State → State → State
in_place s x = if is_number s.number x then s else x

same_number : (s x : State) → (in_place s x).number.0 ≡ x.number.0
same_number s x = elim (cases_Bool (is_number s.number x)) [
  | inl it_is ↦ rw it_is (sym (eqb-true x.number.0 s.number.0 it_is))
  | inr not_it ↦ rw not_it refl
]

-- ---- a table

all_touched : (n : ℕ) (s : State) (xs : List State) → list_all (λ (x : State). nat_lt n x.number.0) xs ≡ true → list_all (λ (x : State). nat_lt n x.number.0) (with_touched s xs) ≡ true
all_touched n s [] all = refl
all_touched n s (x ∷ xs) all =
    let parts = and_parts (nat_lt n x.number.0) (list_all (λ (x : State). nat_lt n x.number.0) xs) all in
    and_from (nat_lt n (in_place s x).number.0) (list_all (λ (x : State). nat_lt n x.number.0) (with_touched s xs)) (ap (nat_lt n) (same_number s x) ∙ parts.0) (all_touched n s xs parts.1)

pub rise_touched : (s : State) (xs : List State) → rise xs ≡ true → rise (with_touched s xs) ≡ true
rise_touched s [] in_order = refl
rise_touched s (x ∷ xs) in_order =
    let parts = and_parts (are_above x xs) (rise xs) in_order in
    let above = all_touched x.number.0 s xs parts.0 in
    and_from (are_above (in_place s x) (with_touched s xs)) (rise (with_touched s xs)) (subst (λ (n : ℕ). list_all (λ (x : State). nat_lt n x.number.0) (with_touched s xs) ≡ true) (sym (same_number s x)) above) (rise_touched s xs parts.1)

none_touched : (p : State → Bool) (s : State) (xs : List State) → p s ≡ false → list_any p xs ≡ false → list_any p (with_touched s xs) ≡ false
none_touched p s [] it none = refl
none_touched p s (x ∷ xs) it none =
    let parts = or_parts (p x) (list_any p xs) none in
    let rest = none_touched p s xs it parts.1 in
    elim (cases_Bool (is_number s.number x)) [
      | inl it_is ↦ rw it_is (or_from (p s) (list_any p (with_touched s xs)) it rest)
      | inr not_it ↦ rw not_it (or_from (p x) (list_any p (with_touched s xs)) parts.0 rest)
    ]

not_number : (n : ℕ) (s x : State) → n ≡ s.number.0 → nat_lt n x.number.0 ≡ true → is_number s.number x ≡ false
not_number n s x is above = (let less = ltb-true n x.number.0 above in ne_eqb x.number.0 s.number.0 (λ same. absurd (omega arith)))

pub untouched : (n : ℕ) (s : State) (xs : List State) → n ≡ s.number.0 → list_all (λ (x : State). nat_lt n x.number.0) xs ≡ true → with_touched s xs ≡ xs
untouched n s [] is all = refl
untouched n s (x ∷ xs) is all =
    let parts = and_parts (nat_lt n x.number.0) (list_all (λ (x : State). nat_lt n x.number.0) xs) all in
    rw (not_number n s x is parts.0, untouched n s xs is parts.1) refl

-- a state of another number has a key of the touched one
abbrev pub other_shares : State → State → Bool
other_shares s x = not (is_number s.number x) && shares_key s x

none_shares : (n : ℕ) (s : State) (xs : List State) → n ≡ s.number.0 → list_all (λ (x : State). nat_lt n x.number.0) xs ≡ true → list_any (other_shares s) xs ≡ false → list_any (shares_key s) xs ≡ false
none_shares n s [] is all none = refl
none_shares n s (x ∷ xs) is all none =
    let parts = and_parts (nat_lt n x.number.0) (list_all (λ (x : State). nat_lt n x.number.0) xs) all in
    let nones = or_parts (other_shares s x) (list_any (other_shares s) xs) none in
    or_from (shares_key s x) (list_any (shares_key s) xs) (rw (not_number n s x is parts.0) at nones.0) (none_shares n s xs is parts.1 nones.1)

pub own_touched : (s : State) (xs : List State) → rise xs ≡ true → have_own_keys xs ≡ true → list_any (other_shares s) xs ≡ false → have_own_keys (with_touched s xs) ≡ true
own_touched s [] in_order own none = refl
own_touched s (x ∷ xs) in_order own none =
    let orders = and_parts (are_above x xs) (rise xs) in_order in
    let owns = and_parts (not (list_any (shares_key x) xs)) (have_own_keys xs) own in
    let nones = or_parts (other_shares s x) (list_any (other_shares s) xs) none in
    elim (cases_Bool (is_number s.number x)) [
      | inl it_is ↦
          let is = eqb-true x.number.0 s.number.0 it_is in
          rw (it_is, untouched x.number.0 s xs is orders.0) (and_from (not (list_any (shares_key s) xs)) (have_own_keys xs) (ap not (none_shares x.number.0 s xs is orders.0 nones.1)) owns.1)
      | inr not_it ↦
          let alone : shares_key s x ≡ false = rw not_it at nones.0 in
          let none_of : list_any (shares_key x) (with_touched s xs) ≡ false = none_touched (shares_key x) s xs (shares_turned x s ∙ alone) (not-true (list_any (shares_key x) xs) owns.0) in
          rw not_it (and_from (not (list_any (shares_key x) (with_touched s xs))) (have_own_keys (with_touched s xs)) (ap not none_of) (own_touched s xs orders.1 owns.1 nones.1))
    ]

pub table_touched : (s : State) (states : List State) (limit : ℕ) → list_any (other_shares s) states ≡ false → IsTable (record { states = states; limit = limit })
    → IsTable (record { states = with_touched s states; limit = limit })
table_touched s states limit none table = record {
  in_order = rise_touched s states table.in_order;
  own_keys = own_touched s states table.in_order table.own_keys none;
  few = rw (length-map states (in_place s)) table.few;
}
