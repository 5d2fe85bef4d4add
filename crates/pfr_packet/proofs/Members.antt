-- What lists contain, and what is found in them.
use Rattle.std.proofs.Common.{◌≡◌, ◌<◌, ℕ, zero, suc, Bool, false, ◌⊎◌, inl, inr, List, [], ◌∷◌, Some, None, length, slice_index_or, refl, arith}
use Rattle.std.specs.List.{Contains, filter, find, list_any}
use Rattle.std.proofs.lemmas.Bool.{cases_Bool}

pub here : {X : Type 0} (x : X) (xs : List X) → Contains (x ∷ xs) x
here x xs = (0, omega arith, refl)

pub there : {X : Type 0} (x : X) (xs : List X) (y : X) → Contains xs y → Contains (x ∷ xs) y
there x xs y h = let below = h.1 in (suc h.0, omega arith, h.2)

in_none : {X : Type 0} (y : X) → Contains [] y → ⊥
in_none y h = let below = h.1 in omega arith

cases_at : {X : Type 0} (x : X) (xs : List X) (y : X) (k : ℕ) → k < length (x ∷ xs) → slice_index_or (x ∷ xs) k y ≡ y → (x ≡ y) ⊎ Contains xs y
cases_at x xs y zero below is = inl is
cases_at x xs y (suc k) below is = inr (k, omega arith, is)

in_cons : {X : Type 0} (x : X) (xs : List X) (y : X) → Contains (x ∷ xs) y → (x ≡ y) ⊎ Contains xs y
in_cons x xs y h = cases_at x xs y h.0 h.1 h.2

pub from_filter : {X : Type 0} (p : X → Bool) (xs : List X) (y : X) → Contains (filter p xs) y → Contains xs y
from_filter p [] y h = absurd (in_none y h)
from_filter p (x ∷ xs) y h = elim (cases_Bool (p x)) [
  | inl it_is ↦ elim (in_cons x (filter p xs) y (rw it_is at h)) [
    | inl is ↦ rw (← is) (here x xs)
    | inr rest ↦ there x xs y (from_filter p xs y rest)
  ]
  | inr not_it ↦ there x xs y (from_filter p xs y (rw not_it at h))
]

-- what none of the elements is
pub none_is : {X : Type 0} (p : X → Bool) (xs : List X) → ((x : X) → Contains xs x → p x ≡ false) → list_any p xs ≡ false
none_is p [] none = refl
none_is p (x ∷ xs) none = rw (none x (here x xs)) (none_is p xs (λ y h. none y (there x xs y h)))

-- ---- the first that does

pub found_there : {X : Type 0} (p : X → Bool) (xs : List X) (y : X) → find p xs ≡ Some y → Contains xs y
found_there p [] y is = absurd (cc is)
found_there p (x ∷ xs) y is = elim (cases_Bool (p x)) [
  | inl it_is ↦ (let same : x ≡ y = (let h : Some x ≡ Some y = rw it_is at is in cc h) in rw (← same) (here x xs))
  | inr not_it ↦ there x xs y (found_there p xs y (rw not_it at is))
]

-- if none is found the first element isn't it, and none of the others
pub not_first : {X : Type 0} (p : X → Bool) (x : X) (xs : List X) → find p (x ∷ xs) ≡ None → p x ≡ false
not_first p x xs is = elim (cases_Bool (p x)) [
  | inl it_is ↦ (let h : Some x ≡ None = rw it_is at is in absurd (cc h))
  | inr not_it ↦ not_it
]

pub not_later : {X : Type 0} (p : X → Bool) (x : X) (xs : List X) → find p (x ∷ xs) ≡ None → find p xs ≡ None
not_later p x xs is = let first = not_first p x xs is in rw first at is
