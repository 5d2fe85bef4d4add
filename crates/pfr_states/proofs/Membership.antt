-- What lists contain.
use Rattle.std.proofs.Common.{◌≡◌, ◌<◌, ℕ, zero, suc, Bool, true, false, ◌⊎◌, inl, inr, List, [], ◌∷◌, length, slice_index_or, refl, sym, ap, ◌∙◌, arith}
use Rattle.std.specs.List.{Contains, filter, list_any}
use Rattle.std.proofs.lemmas.Bool.{or_parts, cases_Bool}

pub here : {X : Type 0} (x : X) (xs : List X) → Contains (x ∷ xs) x
here x xs = (0, omega arith, refl)

pub there : {X : Type 0} (x : X) (xs : List X) (y : X) → Contains xs y → Contains (x ∷ xs) y
there x xs y h = let below = h.1 in (suc h.0, omega arith, h.2)

pub in_none : {X : Type 0} (y : X) → Contains [] y → ⊥
in_none y h = let below = h.1 in omega arith

cases_at : {X : Type 0} (x : X) (xs : List X) (y : X) (k : ℕ) → k < length (x ∷ xs) → slice_index_or (x ∷ xs) k y ≡ y → (x ≡ y) ⊎ Contains xs y
cases_at x xs y zero below is = inl is
cases_at x xs y (suc k) below is = inr (k, omega arith, is)

pub in_cons : {X : Type 0} (x : X) (xs : List X) (y : X) → Contains (x ∷ xs) y → (x ≡ y) ⊎ Contains xs y
in_cons x xs y h = cases_at x xs y h.0 h.1 h.2

pub none_of : {X : Type 0} (p : X → Bool) (xs : List X) (y : X) → list_any p xs ≡ false → Contains xs y → p y ≡ false
none_of p [] y none h = absurd (in_none y h)
none_of p (x ∷ xs) y none h =
    let parts = or_parts (p x) (list_any p xs) none in
    elim (in_cons x xs y h) [ inl is ↦ ap p (sym is) ∙ parts.0 | inr rest ↦ none_of p xs y parts.1 rest ]

pub some_of : {X : Type 0} (p : X → Bool) (xs : List X) → list_any p xs ≡ true → (a : X) × Contains xs a × (p a ≡ true)
some_of p [] some = absurd cc
some_of p (x ∷ xs) some = elim (cases_Bool (p x)) [
  | inl it_is ↦ (x, here x xs, it_is)
  | inr other ↦ (let rest = some_of p xs (rw other at some) in (rest.0, there x xs rest.0 rest.1, rest.2))
]

pub from_filter : {X : Type 0} (p : X → Bool) (xs : List X) (y : X) → Contains (filter p xs) y → Contains xs y × (p y ≡ true)
from_filter p [] y h = absurd (in_none y h)
from_filter p (x ∷ xs) y h = elim (cases_Bool (p x)) [
  | inl it_is ↦ elim (in_cons x (filter p xs) y (rw it_is at h)) [
    | inl is ↦ (rw (← is) (here x xs), ap p (sym is) ∙ it_is)
    | inr rest ↦ (let found = from_filter p xs y rest in (there x xs y found.0, found.1))
  ]
  | inr not_it ↦ (let found = from_filter p xs y (rw not_it at h) in (there x xs y found.0, found.1))
]

pub to_filter : {X : Type 0} (p : X → Bool) (xs : List X) (y : X) → Contains xs y → p y ≡ true → Contains (filter p xs) y
to_filter p [] y h passes = absurd (in_none y h)
to_filter p (x ∷ xs) y h passes = elim (in_cons x xs y h) [
  | inl is ↦ rw (ap p is ∙ passes) (rw (← is) (here x (filter p xs)))
  | inr rest ↦ elim (cases_Bool (p x)) [
    | inl it_is ↦ rw it_is (there x (filter p xs) y (to_filter p xs y rest passes))
    | inr not_it ↦ rw not_it (to_filter p xs y rest passes)
  ]
]
