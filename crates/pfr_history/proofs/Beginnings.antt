-- Beginnings of one list.
use Rattle.std.proofs.Common.{◌≡◌, ℕ, zero, suc, ◌+◌, ◌<◌, ◌≤◌, ◌⊎◌, inl, inr, List, [], ◌∷◌, ◌++◌, length, Some, slice_get, refl, ap, sym, ◌∙◌, arith, length-append}
use mathlib.Core.List.{IsPrefix}

-- of two beginnings of one list the shorter begins the longer
pub prefix_shorter : {A : Type 0} (xs ys zs : List A) → IsPrefix xs zs → IsPrefix ys zs → length xs ≤ length ys → IsPrefix xs ys
prefix_shorter [] ys zs p q le = (ys, refl)
prefix_shorter (x ∷ xs) [] zs p q le = absurd (omega arith)
prefix_shorter (x ∷ xs) (y ∷ ys) [] p q le = absurd (cc (p.1))
prefix_shorter (x ∷ xs) (y ∷ ys) (z ∷ zs) p q le =
    let heads : x ≡ y = cc (p.1, q.1) in
    let rest = prefix_shorter xs ys zs (p.0, cc (p.1)) (q.0, cc (q.1)) (omega arith) in
    (rest.0, cc (heads, rest.1))

-- a beginning as long as the whole is the whole
pub prefix_whole : {A : Type 0} (xs ys : List A) → IsPrefix xs ys → length ys ≤ length xs → xs ≡ ys
prefix_whole [] [] p le = refl
prefix_whole [] (y ∷ ys) p le = absurd (omega arith)
prefix_whole (x ∷ xs) [] p le = absurd (cc (p.1))
prefix_whole (x ∷ xs) (y ∷ ys) p le =
    let rest = prefix_whole xs ys (p.0, cc (p.1)) (omega arith) in cc (p.1, rest)

pub prefix_length : {A : Type 0} (xs ys : List A) → IsPrefix xs ys → length xs ≤ length ys
prefix_length xs ys p = omega (arith, sym (ap length p.1) ∙ length-append xs p.0)

-- what is longer by one is the other and its own last element
pub prefix_and_last : {A : Type 0} (xs ys : List A) (k : ℕ) (x : A) → IsPrefix xs ys → length ys ≡ length xs + 1 → k ≡ length xs → slice_get ys k ≡ Some x → ys ≡ xs ++ x ∷ []
prefix_and_last [] [] k x p longer is h = absurd (omega arith)
prefix_and_last [] (y ∷ []) zero x p longer is h = cc h
prefix_and_last [] (y ∷ []) (suc k) x p longer is h = absurd (omega arith)
prefix_and_last [] (y ∷ z ∷ ys) k x p longer is h = absurd (omega arith)
prefix_and_last (a ∷ xs) [] k x p longer is h = absurd (omega arith)
prefix_and_last (a ∷ xs) (y ∷ ys) zero x p longer is h = absurd (omega arith)
prefix_and_last (a ∷ xs) (y ∷ ys) (suc k) x p longer is h =
    let rest = prefix_and_last xs ys k x (p.0, cc (p.1)) (omega arith) (omega arith) h in cc (p.1, rest)

-- of two beginnings of one list that is the longer one which is longer than the other
pub longer_is : {A : Type 0} (xs ys both : List A) → (both ≡ xs) ⊎ (both ≡ ys) → IsPrefix ys both → length xs < length ys → both ≡ ys
longer_is xs ys both (inl e) p less = absurd (let shorter = prefix_length ys both p in let same = ap length e in omega arith)
longer_is xs ys both (inr e) p less = e
