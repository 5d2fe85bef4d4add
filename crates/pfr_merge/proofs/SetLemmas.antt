-- A list of which one element was replaced.
use Rattle.std.proofs.Common.{◌≡◌, ◌∙◌, ℕ, zero, suc, List, [], ◌∷◌, map, set, Some, slice_get, refl, sym, ap}

pub set_same : {X : Type 0} (xs : List X) (i : ℕ) (x y : X) → slice_get xs i ≡ Some x → slice_get (set xs i y) i ≡ Some y
set_same [] i x y at = absurd (cc)
set_same (z ∷ xs) zero x y at = refl
set_same (z ∷ xs) (suc i) x y at = set_same xs i x y at

pub set_other : {X : Type 0} (xs : List X) (i k : ℕ) (y : X) → (k ≡ i → ⊥) → slice_get (set xs i y) k ≡ slice_get xs k
set_other [] i k y other = refl
set_other (x ∷ xs) zero zero y other = absurd (other refl)
set_other (x ∷ xs) zero (suc k) y other = refl
set_other (x ∷ xs) (suc i) zero y other = refl
set_other (x ∷ xs) (suc i) (suc k) y other = set_other xs i k y (λ same. other (ap (λ (n : ℕ). suc n) same))

pub set_self : {X : Type 0} (xs : List X) (i : ℕ) (x : X) → slice_get xs i ≡ Some x → set xs i x ≡ xs
set_self [] i x at = refl
set_self {X = X} (y ∷ xs) zero x at =
    let same : y ≡ x = cc in
    ap (λ (z : X). z ∷ xs) (sym same)
set_self {X = X} (y ∷ xs) (suc i) x at = ap (λ (zs : List X). y ∷ zs) (set_self xs i x at)

-- what all elements say stays the same if the new one says what the old one said
pub map_kept : {X Y : Type 0} (f : X → Y) (xs : List X) (i : ℕ) (x y : X) → slice_get xs i ≡ Some x → f y ≡ f x → map f (set xs i y) ≡ map f xs
map_kept f [] i x y at same = refl
map_kept {Y = Y} f (z ∷ xs) zero x y at same =
    let here : z ≡ x = cc in
    ap (λ (v : Y). v ∷ map f xs) (same ∙ ap f (sym here))
map_kept {Y = Y} f (z ∷ xs) (suc i) x y at same = ap (λ (vs : List Y). f z ∷ vs) (map_kept f xs i x y at same)

pub map_at : {X Y : Type 0} (f : X → Y) (xs : List X) (i : ℕ) (x : X) → slice_get xs i ≡ Some x → slice_get (map f xs) i ≡ Some (f x)
map_at f [] i x at = absurd (cc)
map_at {X = X} f (z ∷ xs) zero x at =
    let here : z ≡ x = cc in
    ap (λ (v : X). Some (f v)) here
map_at f (z ∷ xs) (suc i) x at = map_at f xs i x at
