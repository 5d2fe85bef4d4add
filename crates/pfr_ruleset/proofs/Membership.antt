-- What is in a list, one element at a time.
use Rattle.std.proofs.Common.{◌≡◌, ◌<◌, ℕ, zero, suc, ◌⊎◌, inl, inr, List, [], ◌∷◌, length, map, slice_index_or, refl, arith}
use Rattle.std.specs.List.{Contains}

pub here : {X : Type 0} (x : X) (xs : List X) → Contains (x ∷ xs) x
here x xs = (0, omega arith, refl)

pub there : {X : Type 0} (x : X) (xs : List X) (y : X) → Contains xs y → Contains (x ∷ xs) y
there x xs y h = let below = h.1 in (suc h.0, omega arith, h.2)

pub in_none : {X : Type 0} (y : X) → Contains [] y → ⊥
in_none y h = let below = h.1 in omega arith

cases_at : {X : Type 0} (x : X) (xs : List X) (y : X) (k : ℕ) → k < length (x ∷ xs) → slice_index_or (x ∷ xs) k y ≡ y → (x ≡ y) ⊎ Contains xs y
cases_at x xs y zero below is = inl is
cases_at x xs y (suc k) below is = inr (k, omega arith, is)

pub in_cons : {X : Type 0} (x : X) (xs : List X) (y : X) → Contains (x ∷ xs) y → (x ≡ y) ⊎ Contains xs y
in_cons x xs y h = cases_at x xs y h.0 h.1 h.2

pub from_map : {X Y : Type 0} (f : X → Y) (xs : List X) (y : Y) → Contains (map f xs) y → (x : X) × Contains xs x × (f x ≡ y)
from_map f [] y h = absurd (in_none y h)
from_map f (x ∷ xs) y h = elim (in_cons (f x) (map f xs) y h) [
  | inl is ↦ (x, here x xs, is)
  | inr rest ↦ let found = from_map f xs y rest in (found.0, there x xs found.0 found.1, found.2)
]

to_map_by : {X Y : Type 0} (f : X → Y) (x : X) (xs : List X) (y : X) → ((Contains xs y) → Contains (map f xs) (f y)) → (x ≡ y) ⊎ Contains xs y → Contains (map f (x ∷ xs)) (f y)
to_map_by f x xs y more (inl is) = rw (← is) (here (f x) (map f xs))
to_map_by f x xs y more (inr rest) = there (f x) (map f xs) (f y) (more rest)

pub to_map : {X Y : Type 0} (f : X → Y) (xs : List X) (y : X) → Contains xs y → Contains (map f xs) (f y)
to_map f [] y h = absurd (in_none y h)
to_map f (x ∷ xs) y h = to_map_by f x xs y (to_map f xs y) (in_cons x xs y h)
