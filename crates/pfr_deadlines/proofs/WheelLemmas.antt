-- Waits in buckets by the second at which they come up.
use Rattle.std.proofs.Common.{◌≡◌, ◌<◌, ◌≤◌, ◌+◌, ◌-◌, ◌%◌, ◌++◌, ◌∙◌, if◌then◌else◌, ℕ, zero, suc, Bool, true, false, List, [], ◌∷◌, length, get_or, set, Result, Ok, Err, OnOk, is_ok, refl, sym, ap, subst, inl, inr, arith}
use Rattle.std.specs.List.{All, Contains, swap_remove}
use Rattle.std.specs.List.Sorted.{IsPermutation}
use Rattle.std.specs.declared.cmp.Reverse.{Reverse}
use Rattle.std.proofs.Math.Nat.{add-mod-mod}
use Rattle.std.proofs.lemmas.Bool.{cases_lt, cases_order}
use Rattle.std.proofs.lemmas.List.{get_or-set_other, get_or-set_same, length-set}
use Rattle.std.proofs.lemmas.List.Elements.{All-contains, All-contains_itself, Contains-append_right}
use Rattle.std.proofs.lemmas.List.Sorted.{Contains-permutation, IsPermutation-append_left, IsPermutation-append_right, IsPermutation-middle, IsPermutation-swap_remove, IsPermutation-sym, IsPermutation-to_front, IsPermutation-trans}
use Rattle.pfr_deadlines.specs.Waits.{Wait}
use Rattle.pfr_deadlines.specs.Wheel.{ArePart, ArePartBut, AreTaken, Bucket, IsItemFrom, IsPart, IsTaken, StandRight, StandsIn, items_of}
use Rattle.pfr_deadlines.proofs.BucketLemmas.{in_all, moved, of_all, same_all}

-- what holds of each by membership
all_in : (P : Reverse Wait → Type 0) (xs : List (Reverse Wait)) → ((wait : Reverse Wait) → Contains xs wait → P wait) → All P xs
all_in P xs each k d below = each (get_or xs k d) (All-contains_itself xs k d below)

in_none : (wait : Reverse Wait) → Contains [] wait → ⊥
in_none wait inside = let below = inside.1 in omega arith

-- ---- a bucket

-- an element at an index is one, whatever stands for none
same_item : (xs : List (Reverse Wait)) (i : ℕ) (x y : Reverse Wait) → i < length xs → x ≡ get_or xs i x → y ≡ get_or xs i y → x ≡ y
same_item [] i x y within is it = absurd (omega arith)
same_item (z ∷ xs) zero x y within is it = is ∙ sym it
same_item (z ∷ xs) (suc i) x y within is it = same_item xs i x y (omega arith) is it

-- the one at an index that comes up late enough
pub own_at : (xs : List (Reverse Wait)) (i k : ℕ) (x d : Reverse Wait) (end : ℕ) → i < length xs → i ≡ k → x ≡ get_or xs i x → end ≤ x.0.0.0 → IsItemFrom end (get_or xs k d)
own_at [] i k x d end within same is late = absurd (omega arith)
own_at (y ∷ xs) zero zero x d end within same is late = subst (λ (z : Reverse Wait). IsItemFrom end z) is late
own_at (y ∷ xs) zero (suc k) x d end within same is late = absurd (omega (arith, same))
own_at (y ∷ xs) (suc i) zero x d end within same is late = absurd (omega (arith, same))
own_at (y ∷ xs) (suc i) (suc k) x d end within same is late = own_at xs i k x d end (omega arith) (omega (arith, same)) is late

-- one goes out of a bucket
pub removed : (xs ys : List (Reverse Wait)) (i : ℕ) (x y : Reverse Wait) → i < length xs → x ≡ get_or xs i x → y ≡ get_or xs i y → ys ≡ swap_remove xs i x → IsPermutation xs (y ∷ ys)
removed xs ys i x y within is it left =
    subst (λ (z : Reverse Wait). IsPermutation xs (z ∷ ys)) (same_item xs i x y within is it)
    (subst (λ (l : List (Reverse Wait)). IsPermutation xs (x ∷ l)) (sym left) (IsPermutation-swap_remove xs i x within is))

-- and into the heap
pub moved_one : (start near bucket after rest : List (Reverse Wait)) (wait : Reverse Wait) → IsPermutation start (near ++ bucket) → IsPermutation (wait ∷ near) after → IsPermutation bucket (wait ∷ rest) → IsPermutation start (after ++ rest)
moved_one start near bucket after rest wait so_far into out =
    IsPermutation-trans start (near ++ bucket) (after ++ rest) so_far
    (IsPermutation-trans (near ++ bucket) (near ++ wait ∷ rest) (after ++ rest) (IsPermutation-append_right near bucket (wait ∷ rest) out)
    (IsPermutation-trans (near ++ wait ∷ rest) (wait ∷ (near ++ rest)) (after ++ rest) (IsPermutation-middle near wait rest) (IsPermutation-append_left rest (wait ∷ near) after into)))

pub fewer_by_one : (all rest before : List (Reverse Wait)) (wait : Reverse Wait) → IsPart all before → IsPermutation all (wait ∷ rest) → IsPart rest before
fewer_by_one all rest before wait part now other inside = part other (Contains-permutation (wait ∷ rest) all other (IsPermutation-sym all (wait ∷ rest) now) (Contains-append_right (wait ∷ []) rest other inside))

-- one goes into a bucket, or doesn't
pub put_done : (buckets : List Bucket) (index : ℕ) (wait : Reverse Wait) (found after : Bucket) (is_put : Bool) → index < length buckets → found ≡ get_or buckets index found → after.items ≡ (if is_put then found.items ++ wait ∷ [] else found.items) → is_put ≡ true
    → IsPermutation (wait ∷ items_of buckets) (items_of (set buckets index after))
put_done buckets index wait found after true within is now put =
    moved (λ (b : Bucket). b.items) buckets index found after (wait ∷ []) [] within
    (subst (λ (b : Bucket). IsPermutation (wait ∷ b.items) after.items) is
    (subst (λ (l : List (Reverse Wait)). IsPermutation (wait ∷ found.items) l) (sym now) (IsPermutation-sym (found.items ++ wait ∷ []) (wait ∷ found.items) (IsPermutation-to_front found.items wait))))
put_done buckets index wait found after false within is now put = absurd cc

pub put_kept : (buckets : List Bucket) (index : ℕ) (wait : Reverse Wait) (found after : Bucket) (is_put : Bool) → index < length buckets → found ≡ get_or buckets index found → after.items ≡ (if is_put then found.items ++ wait ∷ [] else found.items) → is_put ≡ false
    → items_of (set buckets index after) ≡ items_of buckets
put_kept buckets index wait found after true within is now put = absurd cc
put_kept buckets index wait found after false within is now put = same_all (λ (b : Bucket). b.items) buckets index found after within (now ∙ ap (λ (b : Bucket). b.items) is)

-- ---- the buckets

-- with nothing in them
pub none_right : (bound : ℕ) (buckets : List Bucket) → items_of buckets ≡ [] → StandRight bound buckets
none_right bound buckets none i d within =
    all_in (StandsIn bound i) (get_or buckets i d).items (λ wait inside. absurd (in_none wait (subst (λ (l : List (Reverse Wait)). Contains l wait) none (in_all (λ (b : Bucket). b.items) buckets i d wait within inside))))

-- the bound of all
pub all_from : (bound : ℕ) (buckets : List Bucket) → StandRight bound buckets → All (IsItemFrom bound) (items_of buckets)
all_from bound buckets right = of_all (λ (b : Bucket). b.items) (IsItemFrom bound) buckets (λ i d within k e below. (right i d within k e below).from)

-- fewer waits stand right
pub part_right : (bound : ℕ) (after before : List Bucket) → StandRight bound before → ArePart after before → StandRight bound after
part_right bound after before right part i d within =
    let even = part.0 in
    all_in (StandsIn bound i) (get_or after i d).items (λ wait inside. All-contains (StandsIn bound i) (get_or before i d).items wait (right i d (omega (arith, even))) (part.1 i d wait inside))

-- and so does one more in its bucket
pub more_right : (bound index : ℕ) (wait : Reverse Wait) (after before : List Bucket) → StandRight bound before → ArePartBut index wait after before → bound ≤ wait.0.0.0 → wait.0.0.0 % 256 ≡ index → StandRight bound after
more_right bound index wait after before right part from own i d within =
    let even = part.0 in
    all_in (StandsIn bound i) (get_or after i d).items (λ other inside. elim (part.1 i d other inside) [
      | inl old ↦ All-contains (StandsIn bound i) (get_or before i d).items other (right i d (omega (arith, even))) old
      | inr new ↦ subst (λ (w : Reverse Wait). StandsIn bound i w) new.1 (record { from = from; own = own ∙ sym new.0 })
    ])

-- a second's bucket is that of one of the next seconds
next_second : (from second : ℕ) → from ≤ second → (from + (second - from) % 256) % 256 ≡ second % 256
next_second from second past = add-mod-mod from (second - from) 256 ∙ ap (λ (n : ℕ). n % 256) (omega arith)

-- once the buckets of the seconds up to a bound have been gone through, nothing comes up below it
pub taken_right : (from end : ℕ) (after before : List Bucket) → StandRight from before → ArePart after before → AreTaken from end after → StandRight end after
taken_right from end after before right part taken i d within =
    let even = part.0 in
    all_in (StandsIn end i) (get_or after i d).items (λ wait inside.
    let stood = All-contains (StandsIn from i) (get_or before i d).items wait (right i d (omega (arith, even))) (part.1 i d wait inside) in
    record { from = later wait inside stood; own = stood.own }) where
      later : (wait : Reverse Wait) → Contains (get_or after i d).items wait → StandsIn from i wait → end ≤ wait.0.0.0
      later wait inside stood = elim (cases_lt wait.0.0.0 end) [
        | inl less ↦
            let past = stood.from in
            let ahead = (wait.0.0.0 - from) % 256 in
            let index : (from + ahead) % 256 ≡ i = next_second from wait.0.0.0 past ∙ stood.own in
            let none = taken ahead (omega (arith, past, less)) (omega arith) d (subst (λ (n : ℕ). n < length after) (sym index) within) in
            All-contains (IsItemFrom end) (get_or after i d).items wait (subst (λ (n : ℕ). All (IsItemFrom end) (get_or after n d).items) index none) inside
        | inr above ↦ above
      ]

-- one bucket more of a second has been gone through
pub taken_more : (from ahead end : ℕ) (after before : List Bucket) → ArePart after before → ((k : ℕ) → k < ahead → IsTaken end ((from + k) % 256) before) → IsTaken end ((from + ahead) % 256) after → (k : ℕ) → k < ahead + 1 → IsTaken end ((from + k) % 256) after
taken_more from ahead end after before part taken now k within d below = elim (cases_lt k ahead) [
  | inl less ↦
      let even = part.0 in
      all_in (IsItemFrom end) (get_or after ((from + k) % 256) d).items (λ wait inside. All-contains (IsItemFrom end) (get_or before ((from + k) % 256) d).items wait (taken k less d (omega (arith, even, below))) (part.1 ((from + k) % 256) d wait inside))
  | inr above ↦
      let same : ahead ≡ k = omega arith in
      subst (λ (n : ℕ). IsTaken end ((from + n) % 256) after) same now d below
]

-- what is part of a part is part of the whole
pub part_of_part : (after between before : List Bucket) → ArePart after between → ArePart between before → ArePart after before
part_of_part after between before part whole = (part.0 ∙ whole.0, λ i d wait inside. whole.1 i d wait (part.1 i d wait inside))

-- one bucket is a part of what it was
pub one_part : (buckets : List Bucket) (index : ℕ) (found after : Bucket) → index < length buckets → found ≡ get_or buckets index found → IsPart after.items found.items → ArePart (set buckets index after) buckets
one_part buckets index found after within is part = (
  length-set buckets index after,
  λ i d wait inside. elim (cases_order i index) [
    | inl same ↦
        subst (λ (b : Bucket). Contains b.items wait) (is ∙ got buckets index i found d within (sym same)) (part wait (subst (λ (b : Bucket). Contains b.items wait) (ap (λ (n : ℕ). get_or (set buckets index after) n d) same ∙ get_or-set_same buckets index after d within) inside))
    | inr (inl less) ↦ subst (λ (b : Bucket). Contains b.items wait) (get_or-set_other buckets index i after d (λ same. omega (arith, same, less))) inside
    | inr (inr more) ↦ subst (λ (b : Bucket). Contains b.items wait) (get_or-set_other buckets index i after d (λ same. omega (arith, same, more))) inside
  ],
) where
  got : (bs : List Bucket) (i j : ℕ) (d e : Bucket) → i < length bs → i ≡ j → get_or bs i d ≡ get_or bs j e
  got [] i j d e below same = absurd (omega arith)
  got (b ∷ bs) zero zero d e below same = refl
  got (b ∷ bs) zero (suc j) d e below same = absurd (omega (arith, same))
  got (b ∷ bs) (suc i) zero d e below same = absurd (omega (arith, same))
  got (b ∷ bs) (suc i) (suc j) d e below same = got bs i j d e (omega arith) (omega (arith, same))

-- what an answer that is well says
pub ok_holds : {A E : Type 0} (r : Result A E) (P : Type 0) → OnOk r P → is_ok r ≡ true → P
ok_holds (Ok a) P holds well = holds
ok_holds (Err e) P holds well = absurd cc
