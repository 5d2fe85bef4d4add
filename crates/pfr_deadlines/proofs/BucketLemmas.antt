-- Lists that stand in buckets: what they hold together, and what one of them changes.
use Rattle.std.proofs.Common.{◌≡◌, ◌<◌, ◌++◌, ◌∙◌, ℕ, zero, suc, Bool, List, [], ◌∷◌, length, get_or, set, refl, sym, ap, subst, arith}
use Rattle.std.specs.List.{All, Contains, filter, flat_map}
use Rattle.std.specs.List.Sorted.{IsPermutation}
use Rattle.std.proofs.lemmas.List.{append_assoc}
use Rattle.std.proofs.lemmas.List.Elements.{All-append, All-nil, Contains-append_left, filter-append}
use Rattle.std.proofs.lemmas.List.Sorted.{Contains-permutation, IsPermutation-append_comm, IsPermutation-append_left, IsPermutation-append_right, IsPermutation-refl, IsPermutation-sym, IsPermutation-trans}

-- the first of three lists goes behind the second
past : {X : Type 0} (xs ys zs : List X) → IsPermutation (xs ++ (ys ++ zs)) (ys ++ (xs ++ zs))
past {X} xs ys zs =
    subst (λ (l : List X). IsPermutation l (ys ++ (xs ++ zs))) (append_assoc xs ys zs)
    (subst (λ (l : List X). IsPermutation ((xs ++ ys) ++ zs) l) (append_assoc ys xs zs) (IsPermutation-append_left zs (xs ++ ys) (ys ++ xs) (IsPermutation-append_comm xs ys)))

-- what the other buckets hold
abbrev others : {B X : Type 0} → (B → List X) → List B → ℕ → List X
others f [] i = []
others f (b ∷ bs) zero = flat_map f bs
others f (b ∷ bs) (suc i) = f b ++ others f bs i

module _ {B X : Type 0} (f : B → List X) where
  in_front : (bs : List B) (i : ℕ) (d : B) → i < length bs → IsPermutation (flat_map f bs) (f (get_or bs i d) ++ others f bs i)
  in_front [] i d within = absurd (omega arith)
  in_front (b ∷ bs) zero d within = IsPermutation-refl (f b ++ flat_map f bs)
  in_front (b ∷ bs) (suc i) d within =
      IsPermutation-trans (f b ++ flat_map f bs) (f b ++ (f (get_or bs i d) ++ others f bs i)) (f (get_or bs i d) ++ (f b ++ others f bs i))
      (IsPermutation-append_right (f b) (flat_map f bs) (f (get_or bs i d) ++ others f bs i) (in_front bs i d (omega arith)))
      (past (f b) (f (get_or bs i d)) (others f bs i))

  from_front : (bs : List B) (i : ℕ) (v : B) → i < length bs → IsPermutation (f v ++ others f bs i) (flat_map f (set bs i v))
  from_front [] i v within = absurd (omega arith)
  from_front (b ∷ bs) zero v within = IsPermutation-refl (f v ++ flat_map f bs)
  from_front (b ∷ bs) (suc i) v within =
      IsPermutation-trans (f v ++ (f b ++ others f bs i)) (f b ++ (f v ++ others f bs i)) (f b ++ flat_map f (set bs i v))
      (past (f v) (f b) (others f bs i))
      (IsPermutation-append_right (f b) (f v ++ others f bs i) (flat_map f (set bs i v)) (from_front bs i v (omega arith)))

  -- what moves between a list and a bucket moves between it and all of them
  pub moved : (bs : List B) (i : ℕ) (d v : B) (xs ys : List X) → i < length bs → IsPermutation (xs ++ f (get_or bs i d)) (ys ++ f v) → IsPermutation (xs ++ flat_map f bs) (ys ++ flat_map f (set bs i v))
  moved bs i d v xs ys within now =
      IsPermutation-trans (xs ++ flat_map f bs) (xs ++ (f (get_or bs i d) ++ others f bs i)) (ys ++ flat_map f (set bs i v))
      (IsPermutation-append_right xs (flat_map f bs) (f (get_or bs i d) ++ others f bs i) (in_front bs i d within))
      (IsPermutation-trans (xs ++ (f (get_or bs i d) ++ others f bs i)) (ys ++ (f v ++ others f bs i)) (ys ++ flat_map f (set bs i v))
      (subst (λ (l : List X). IsPermutation l (ys ++ (f v ++ others f bs i))) (append_assoc xs (f (get_or bs i d)) (others f bs i))
      (subst (λ (l : List X). IsPermutation ((xs ++ f (get_or bs i d)) ++ others f bs i) l) (append_assoc ys (f v) (others f bs i)) (IsPermutation-append_left (others f bs i) (xs ++ f (get_or bs i d)) (ys ++ f v) now)))
      (IsPermutation-append_right ys (f v ++ others f bs i) (flat_map f (set bs i v)) (from_front bs i v within)))

  -- what stands in a bucket is among all
  pub in_all : (bs : List B) (i : ℕ) (d : B) (x : X) → i < length bs → Contains (f (get_or bs i d)) x → Contains (flat_map f bs) x
  in_all bs i d x within inside =
      Contains-permutation (f (get_or bs i d) ++ others f bs i) (flat_map f bs) x (IsPermutation-sym (flat_map f bs) (f (get_or bs i d) ++ others f bs i) (in_front bs i d within)) (Contains-append_left (f (get_or bs i d)) (others f bs i) x inside)

  -- another bucket that holds the same
  pub same_all : (bs : List B) (i : ℕ) (d v : B) → i < length bs → f v ≡ f (get_or bs i d) → flat_map f (set bs i v) ≡ flat_map f bs
  same_all [] i d v within same = absurd (omega arith)
  same_all (b ∷ bs) zero d v within same = ap (λ (l : List X). l ++ flat_map f bs) same
  same_all (b ∷ bs) (suc i) d v within same = ap (λ (l : List X). f b ++ l) (same_all bs i d v (omega arith) same)

  -- what holds of each bucket's holds of all
  pub of_all : (P : X → Type 0) (bs : List B) → ((i : ℕ) (d : B) → i < length bs → All P (f (get_or bs i d))) → All P (flat_map f bs)
  of_all P [] each = All-nil P
  of_all P (b ∷ bs) each = All-append P (f b) (flat_map f bs) (each 0 b (omega arith)) (of_all P bs (λ i d within. each (suc i) d (omega arith)))

  -- each bucket keeps what passes a test, and so do all
  pub filtered_all : (p : X → Bool) (bs cs : List B) → length cs ≡ length bs → ((i : ℕ) (d : B) → i < length bs → f (get_or cs i d) ≡ filter p (f (get_or bs i d))) → flat_map f cs ≡ filter p (flat_map f bs)
  filtered_all p [] [] even each = refl
  filtered_all p [] (c ∷ cs) even each = absurd (omega (arith, even))
  filtered_all p (b ∷ bs) [] even each = absurd (omega (arith, even))
  filtered_all p (b ∷ bs) (c ∷ cs) even each =
      ap (λ (l : List X). l ++ flat_map f cs) (each 0 b (omega arith)) ∙ ap (λ (l : List X). filter p (f b) ++ l) (filtered_all p bs cs (omega (arith, even)) (λ i d within. each (suc i) d (omega arith))) ∙ sym (filter-append p (f b) (flat_map f bs))
