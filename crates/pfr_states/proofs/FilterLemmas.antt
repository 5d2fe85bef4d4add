-- What a filter keeps of a table.
use Rattle.std.proofs.Common.{◌≡◌, ◌≤◌, ◌<◌, ℕ, suc, Bool, true, false, not, nat_lt, List, [], ◌∷◌, length, sym, refl, ap, ◌∙◌, inl, inr, arith}
use Rattle.std.specs.List.{filter, list_all, list_any}
use Rattle.std.proofs.lemmas.Bool.{and_parts, and_from, or_parts, or_from, cases_Bool, not-true, not-false, lt-ltb, le-ltb}
use Rattle.pfr_track.specs.declared.state.State.{State}
use Rattle.pfr_states.specs.States.{IsTable, rise, are_above, have_own_keys, shares_key, has_room}

all_filter : {X : Type 0} (p q : X → Bool) (xs : List X) → list_all p xs ≡ true → list_all p (filter q xs) ≡ true
all_filter p q [] all = refl
all_filter p q (x ∷ xs) all =
    let parts = and_parts (p x) (list_all p xs) all in
    let rest = all_filter p q xs parts.1 in
    elim (cases_Bool (q x)) [
      | inl it_is ↦ rw it_is (and_from (p x) (list_all p (filter q xs)) parts.0 rest)
      | inr not_it ↦ rw not_it rest
    ]

none_filter : {X : Type 0} (p q : X → Bool) (xs : List X) → list_any p xs ≡ false → list_any p (filter q xs) ≡ false
none_filter p q [] none = refl
none_filter p q (x ∷ xs) none =
    let parts = or_parts (p x) (list_any p xs) none in
    let rest = none_filter p q xs parts.1 in
    elim (cases_Bool (q x)) [
      | inl it_is ↦ rw it_is (or_from (p x) (list_any p (filter q xs)) parts.0 rest)
      | inr not_it ↦ rw not_it rest
    ]

pub rise_filter : (q : State → Bool) (states : List State) → rise states ≡ true → rise (filter q states) ≡ true
rise_filter q [] in_order = refl
rise_filter q (x ∷ xs) in_order =
    let parts = and_parts (are_above x xs) (rise xs) in_order in
    let rest = rise_filter q xs parts.1 in
    elim (cases_Bool (q x)) [
      | inl it_is ↦ rw it_is (and_from (are_above x (filter q xs)) (rise (filter q xs)) (all_filter (λ other. nat_lt x.number.0 other.number.0) q xs parts.0) rest)
      | inr not_it ↦ rw not_it rest
    ]

pub own_filter : (q : State → Bool) (states : List State) → have_own_keys states ≡ true → have_own_keys (filter q states) ≡ true
own_filter q [] own = refl
own_filter q (x ∷ xs) own =
    let parts = and_parts (not (list_any (shares_key x) xs)) (have_own_keys xs) own in
    let rest = own_filter q xs parts.1 in
    elim (cases_Bool (q x)) [
      | inl it_is ↦ rw it_is (and_from (not (list_any (shares_key x) (filter q xs))) (have_own_keys (filter q xs)) (ap not (none_filter (shares_key x) q xs (not-true (list_any (shares_key x) xs) parts.0))) rest)
      | inr not_it ↦ rw not_it rest
    ]

pub length_filter : {X : Type 0} (q : X → Bool) (xs : List X) → length (filter q xs) ≤ length xs
length_filter q [] = omega arith
length_filter q (x ∷ xs) =
    let rest = length_filter q xs in
    elim (cases_Bool (q x)) [ inl it_is ↦ rw it_is (omega arith) | inr not_it ↦ rw not_it (omega arith) ]

pub table_filter : (q : State → Bool) (states : List State) (limit : ℕ) → IsTable (record { states = states; limit = limit }) → IsTable (record { states = filter q states; limit = limit })
table_filter q states limit table = record {
  in_order = rise_filter q states table.in_order;
  own_keys = own_filter q states table.own_keys;
  few = (let few = table.few in let less = length_filter q states in omega arith);
}

-- ---- room

pub all_kept : {X : Type 0} (q : X → Bool) (xs : List X) → list_any (λ x. not (q x)) xs ≡ false → length (filter q xs) ≡ length xs
all_kept q [] none = refl
all_kept q (x ∷ xs) none =
    let parts = or_parts (not (q x)) (list_any (λ x. not (q x)) xs) none in
    rw (not-false (q x) parts.0) (ap suc (all_kept q xs parts.1))

pub one_less : {X : Type 0} (q : X → Bool) (xs : List X) → list_any (λ x. not (q x)) xs ≡ true → length (filter q xs) < length xs
one_less q [] some = absurd cc
one_less q (x ∷ xs) some =
    elim (cases_Bool (q x)) [
      | inl it_is ↦ rw it_is (let less = one_less q xs (rw it_is at some) in omega arith)
      | inr not_it ↦ rw not_it (let less = length_filter q xs in omega arith)
    ]

pub room_full : (q : State → Bool) (states : List State) (limit : ℕ) → length states ≤ limit → limit ≤ length states → list_any (λ x. not (q x)) states ≡ has_room limit (filter q states)
room_full q states limit few full = elim (cases_Bool (list_any (λ x. not (q x)) states)) [
  | inl some ↦ (let less = one_less q states some in some ∙ sym (lt-ltb (length (filter q states)) limit (omega arith)))
  | inr none ↦ (let same = all_kept q states none in none ∙ sym (le-ltb (length (filter q states)) limit (omega arith)))
]

pub room_left : (q : State → Bool) (states : List State) (limit : ℕ) → length states < limit → true ≡ has_room limit (filter q states)
room_left q states limit few = (let less = length_filter q states in sym (lt-ltb (length (filter q states)) limit (omega arith)))
