-- The merge takes the next event, and there is one merge.
use Rattle.std.proofs.Common.{◌≡◌, ℕ, zero, suc, ◌<◌, ◌∙◌, true, false, List, [], ◌∷◌, set, Some, slice_get, inl, inr, refl, sym, ap, subst, arith}
use Rattle.std.proofs.lemmas.Bool.{cases_Bool, cases_eq, cases_lt}
use Rattle.pfr_merge.specs.Arrivals.{Event, comes_before}
use Rattle.pfr_merge.specs.Merging.{AreEmpty, IsMerge, IsNext, merge, merged}
use Rattle.pfr_merge.proofs.OrderLemmas.{comes_after, comes_no_sooner, not_before_itself}

pub merge-nil : (xs : List Event) → merge xs [] ≡ xs
merge-nil [] = refl
merge-nil (x ∷ xs) = refl

-- ---- the merge takes what is next

-- an event goes first before a merge whose own first event doesn't come before it
merge_first : (x : Event) (xs events : List Event) → ((y : Event) (ys : List Event) → events ≡ y ∷ ys → comes_before y x ≡ false) → merge (x ∷ xs) events ≡ x ∷ merge xs events
merge_first x xs [] least = ap (λ (rest : List Event). x ∷ rest) (sym (merge-nil xs))
merge_first x xs (y ∷ ys) least = rw (least y ys refl) refl

-- if the next event is another list's, it goes first too
merge_later : (x : Event) (xs events : List Event) → ((y : Event) (ys : List Event) → xs ≡ y ∷ ys → comes_before x y ≡ true) → merge xs (x ∷ events) ≡ x ∷ merge xs events
merge_later x [] events first = refl
merge_later x (y ∷ ys) events first = rw (first y ys refl) refl

-- an event at the head of one of the lists
abbrev pub HeadsList : List (List Event) → Event → Type 0
HeadsList lists y = (k : ℕ) × (ys : List Event) × (slice_get lists k ≡ Some (y ∷ ys))

head_by : (x y : Event) (xs ys events : List Event) (lists : List (List Event)) → (before : (z : Event) (zs : List Event) → events ≡ z ∷ zs → HeadsList lists z) → merge (x ∷ xs) events ≡ y ∷ ys → HeadsList ((x ∷ xs) ∷ lists) y
head_by x y xs ys [] lists before e =
    let same : x ≡ y = cc in
    (0, xs, ap (λ (z : Event). Some (z ∷ xs)) same)
head_by x y xs ys (z ∷ zs) lists before e = elim (cases_Bool (comes_before z x)) [
  | inl sooner ↦
      let taken = rw sooner at e in
      let same : z ≡ y = cc in
      let there = before z zs refl in
      (suc there.0, there.1, subst (λ (v : Event). slice_get lists there.0 ≡ Some (v ∷ there.1)) same there.2)
  | inr later ↦
      let taken = rw later at e in
      let same : x ≡ y = cc in
      (0, xs, ap (λ (v : Event). Some (v ∷ xs)) same)
]

-- the first event of a merge is the head of one of the lists
head_of : (lists : List (List Event)) (y : Event) (ys : List Event) → merged lists ≡ y ∷ ys → HeadsList lists y
head_of [] y ys e = absurd (cc)
head_of ([] ∷ lists) y ys e =
    let there = head_of lists y ys e in
    (suc there.0, there.1, there.2)
head_of ((x ∷ xs) ∷ lists) y ys e = head_by x y xs ys (merged lists) lists (head_of lists) e

behind_first : (xs : List Event) (lists : List (List Event)) (place : ℕ) (x : Event) (rest : List Event) → IsNext (xs ∷ lists) (suc place) x rest → IsNext lists place x rest
behind_first xs lists place x rest next = record {
  stands = next.stands;
  first = λ k y ys below at. next.first (suc k) y ys (omega arith) at;
  least = λ k y ys above at. next.least (suc k) y ys (omega arith) at;
}

-- the merge takes the next event and goes on as the merge of what is left
pub merged_next : (lists : List (List Event)) (place : ℕ) (x : Event) (rest : List Event) → IsNext lists place x rest → merged lists ≡ x ∷ merged (set lists place rest)
merged_next [] place x rest next =
    let stands = next.stands in
    absurd (cc)
merged_next (xs ∷ lists) zero x rest next =
    let stands = next.stands in
    let is : xs ≡ x ∷ rest = cc in
    rw is
    (merge_first x rest (merged lists) (λ y ys e. let there = head_of lists y ys e in next.least (suc there.0) y there.1 (omega arith) there.2))
merged_next (xs ∷ lists) (suc place) x rest next =
    let on = merged_next lists place x rest (behind_first xs lists place x rest next) in
    let later = merge_later x xs (merged (set lists place rest)) (λ y ys e. next.first 0 y ys (omega arith) (ap (λ (v : List Event). Some v) e)) in
    ap (merge xs) on ∙ later

pub empty_merged : (lists : List (List Event)) → AreEmpty lists → merged lists ≡ []
empty_merged [] empty = refl
empty_merged (xs ∷ lists) empty =
    let here : xs ≡ [] = empty 0 xs refl in
    rw here (empty_merged lists (λ k events at. empty (suc k) events at))

pub is_merged : (events : List Event) (lists : List (List Event)) → IsMerge lists events → events ≡ merged lists
is_merged [] lists empty = sym (empty_merged lists empty)
is_merged (x ∷ events) lists (place, rest, next, more) =
    ap (λ (v : List Event). x ∷ v) (is_merged events (set lists place rest) more) ∙ sym (merged_next lists place x rest next)

-- ---- there is a merge

merge_empty : (xs ys : List Event) → merge xs ys ≡ [] → (xs ≡ []) × (ys ≡ [])
merge_empty [] ys e = (refl, e)
merge_empty (x ∷ xs) [] e = absurd (cc)
merge_empty (x ∷ xs) (y ∷ ys) e = elim (cases_Bool (comes_before y x)) [
  | inl sooner ↦ let taken = rw sooner at e in absurd (cc)
  | inr later ↦ let taken = rw later at e in absurd (cc)
]

are_empty : (lists : List (List Event)) → merged lists ≡ [] → AreEmpty lists
are_empty [] e k events at = absurd (cc)
are_empty (xs ∷ lists) e zero events at =
    let parts = merge_empty xs (merged lists) e in
    let same : xs ≡ events = cc in
    sym same ∙ parts.0
are_empty (xs ∷ lists) e (suc k) events at = are_empty lists (merge_empty xs (merged lists) e).1 k events at

-- what is next in some lists
abbrev HasNext : List (List Event) → Event → Type 0
HasNext lists x = (place : ℕ) × (rest : List Event) × IsNext lists place x rest

all_behind : (x : Event) (first : List Event) (lists : List (List Event)) → ((k : ℕ) (y : Event) (ys : List Event) → slice_get lists k ≡ Some (y ∷ ys) → comes_before y x ≡ false) → (k : ℕ) (y : Event) (ys : List Event) → 0 < k → slice_get (first ∷ lists) k ≡ Some (y ∷ ys) → comes_before y x ≡ false
all_behind x first lists least zero y ys above at = absurd (omega arith)
all_behind x first lists least (suc k) y ys above at = least k y ys at

next_here : (x : Event) (xs : List Event) (lists : List (List Event)) → ((k : ℕ) (y : Event) (ys : List Event) → slice_get lists k ≡ Some (y ∷ ys) → comes_before y x ≡ false) → HasNext ((x ∷ xs) ∷ lists) x
next_here x xs lists least =
    (0, xs, record { stands = refl; first = λ k y ys below at. absurd (omega arith); least = all_behind x (x ∷ xs) lists least })

first_too : (x : Event) (xs : List Event) (lists : List (List Event)) (place : ℕ) (rest : List Event) → ((y : Event) (ys : List Event) → xs ≡ y ∷ ys → comes_before x y ≡ true) → IsNext lists place x rest → (k : ℕ) (y : Event) (ys : List Event) → k < suc place → slice_get (xs ∷ lists) k ≡ Some (y ∷ ys) → comes_before x y ≡ true
first_too x xs lists place rest first next zero y ys below at =
    let is : xs ≡ y ∷ ys = cc in
    first y ys is
first_too x xs lists place rest first next (suc k) y ys below at = next.first k y ys (omega arith) at

least_too : (x : Event) (xs : List Event) (lists : List (List Event)) (place : ℕ) (rest : List Event) → IsNext lists place x rest → (k : ℕ) (y : Event) (ys : List Event) → suc place < k → slice_get (xs ∷ lists) k ≡ Some (y ∷ ys) → comes_before y x ≡ false
least_too x xs lists place rest next zero y ys above at = absurd (omega arith)
least_too x xs lists place rest next (suc k) y ys above at = next.least k y ys (omega arith) at

next_there : (x : Event) (xs : List Event) (lists : List (List Event)) → ((y : Event) (ys : List Event) → xs ≡ y ∷ ys → comes_before x y ≡ true) → HasNext lists x → HasNext (xs ∷ lists) x
next_there x xs lists first (place, rest, next) =
    (suc place, rest, record { stands = next.stands; first = first_too x xs lists place rest first next; least = least_too x xs lists place rest next })

-- no head comes before the next event
none_sooner : (lists : List (List Event)) (x : Event) → HasNext lists x → (k : ℕ) (y : Event) (ys : List Event) → slice_get lists k ≡ Some (y ∷ ys) → comes_before y x ≡ false
none_sooner lists x (place, rest, next) k y ys at = elim (cases_lt k place) [
  | inl below ↦ comes_after x y (next.first k y ys below at)
  | inr from ↦ elim (cases_eq k place) [
    | inl same ↦
        let stands = next.stands in
        let there : slice_get lists place ≡ Some (y ∷ ys) = rw (← same) at in
        let is : x ≡ y = cc in
        rw is (not_before_itself y)
    | inr other ↦ next.least k y ys (omega arith) at
  ]
]

next_by : (x : Event) (more : List Event) (xs events : List Event) (lists : List (List Event)) → merged lists ≡ events → ((z : Event) (zs : List Event) → merged lists ≡ z ∷ zs → HasNext lists z) → merge xs events ≡ x ∷ more → HasNext (xs ∷ lists) x
next_by x more [] events lists is there e = next_there x [] lists (λ y ys none. absurd (cc)) (there x more (is ∙ e))
next_by x more (y ∷ ys) [] lists is there e =
    let same : y ≡ x = cc in
    rw same
    (next_here x ys lists (λ k z zs at. let none = are_empty lists is k (z ∷ zs) at in absurd (cc)))
next_by x more (y ∷ ys) (z ∷ zs) lists is there e = elim (cases_Bool (comes_before z y)) [
  | inl sooner ↦
      let taken = rw sooner at e in
      let same : z ≡ x = cc in
      next_there x (y ∷ ys) lists (λ v vs at. let here : y ≡ v = cc in rw (← same, ← here) sooner) (there x zs (rw (← same) is))
  | inr later ↦
      let taken = rw later at e in
      let same : y ≡ x = cc in
      let none = none_sooner lists z (there z zs is) in
      rw same
      (next_here x ys lists (λ k v vs at. comes_no_sooner v z x (none k v vs at) (rw (← same) later)))
]

next_of : (lists : List (List Event)) (x : Event) (more : List Event) → merged lists ≡ x ∷ more → HasNext lists x
next_of [] x more e = absurd (cc)
next_of (xs ∷ lists) x more e = next_by x more xs (merged lists) lists refl (next_of lists) e

merges : (events : List Event) (lists : List (List Event)) → merged lists ≡ events → IsMerge lists events
merges [] lists is = are_empty lists is
merges (x ∷ events) lists is =
    let next = next_of lists x events is in
    let on = merged_next lists next.0 x next.1 next.2 in
    let rest : merged (set lists next.0 next.1) ≡ events = cc in
    (next.0, next.1, next.2, merges events (set lists next.0 next.1) rest)

-- ---- the laws

pub one_merge : (lists : List (List Event)) (one other : List Event) → IsMerge lists one → IsMerge lists other → one ≡ other
one_merge lists one other a b = is_merged one lists a ∙ sym (is_merged other lists b)

pub merged_is_merge : (lists : List (List Event)) → IsMerge lists (merged lists)
merged_is_merge lists = merges (merged lists) lists refl
