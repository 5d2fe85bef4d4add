-- The entries of a list, one after the other.
use Rattle.std.proofs.Common.{◌≡◌, ℕ, zero, suc, ◌+◌, ◌<◌, List, [], ◌∷◌, ◌++◌, length, take, get_or, ap, refl, ◌∙◌, arith}
use Rattle.pfr_published.specs.Entries.{entry_at}

pub entry_is : {X : Type 0} (xs : List X) (i : ℕ) (x : X) → i < length xs → entry_at xs i ≡ get_or xs i x ∷ []
entry_is [] i x inside = absurd (omega (arith, inside))
entry_is (y ∷ ys) zero x inside = refl
entry_is (y ∷ ys) (suc i) x inside = entry_is ys i x (omega (arith, inside))

pub length_is : {X : Type 0} (xs : List X) (i : ℕ) → i < length xs → length (entry_at xs i) ≡ 1
length_is [] i inside = absurd (omega (arith, inside))
length_is (y ∷ ys) zero inside = refl
length_is (y ∷ ys) (suc i) inside = length_is ys i (omega (arith, inside))

take_next : {X : Type 0} (xs : List X) (i : ℕ) → take (suc i) xs ≡ take i xs ++ entry_at xs i
take_next [] zero = refl
take_next [] (suc i) = refl
take_next (y ∷ ys) zero = refl
take_next (y ∷ ys) (suc i) = ap (λ rest. y ∷ rest) (take_next ys i)

pub take_more : {X : Type 0} (xs : List X) (i : ℕ) → take (i + 1) xs ≡ take i xs ++ entry_at xs i
take_more xs i = let same : i + 1 ≡ suc i = omega arith in ap (λ n. take n xs) same ∙ take_next xs i
