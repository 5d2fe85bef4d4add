-- Deadlines in a heap in front and others behind: the first of all.
use Rattle.std.proofs.Common.{◌≡◌, ◌<◌, ◌≤◌, ◌++◌, ◌∙◌, ℕ, false, nat_lt, Bool, List, [], ◌∷◌, Option, Some, None, IfSome, length, slice_index_or, refl, sym, ap, subst, inl, inr, arith}
use Rattle.std.specs.BinaryHeap.{lt_by_cmp}
use Rattle.std.specs.List.{All, AllByRecursion, filter}
use Rattle.std.specs.List.Sorted.{IsPermutation}
use Rattle.std.specs.declared.cmp.Reverse.{Reverse}
use Rattle.std.proofs.lemmas.Bool.{cases_Bool, le-ltb, ne_eqb}
use Rattle.std.proofs.lemmas.List.{map-append}
use Rattle.std.proofs.lemmas.List.Elements.{All-append, All-from_recursion, All-map, All-weaker, filter-append, recursion_from_All}
use Rattle.std.proofs.lemmas.List.Sorted.{IsPermutation-append_left, IsPermutation-append_right, IsPermutation-map, IsPermutation-middle, IsPermutation-sym, IsPermutation-trans}
use Rattle.pfr_deadlines.specs.Waits.{IsBefore, IsFrom, Wait, first_below, head, reversed_cmp, waits_of}
use Rattle.pfr_deadlines.specs.Wheel.{IsItemFrom}
use Rattle.pfr_deadlines.proofs.OrderLemmas.{not_less}
use Rattle.pfr_deadlines.proofs.WaitLemmas.{all_before, filtered}

-- ---- where two lists are one

pub added_near : (item : Reverse Wait) (near far after : List (Reverse Wait)) → IsPermutation (item ∷ near) after → IsPermutation (item.0 ∷ waits_of (near ++ far)) (waits_of (after ++ far))
added_near item near far after now = IsPermutation-map (λ (it : Reverse Wait). it.0) (item ∷ (near ++ far)) (after ++ far) (IsPermutation-append_left far (item ∷ near) after now)

pub added_far : (item : Reverse Wait) (near far after : List (Reverse Wait)) → IsPermutation (item ∷ far) after → IsPermutation (item.0 ∷ waits_of (near ++ far)) (waits_of (near ++ after))
added_far item near far after now =
    IsPermutation-map (λ (it : Reverse Wait). it.0) (item ∷ (near ++ far)) (near ++ after)
    (IsPermutation-trans (item ∷ (near ++ far)) (near ++ item ∷ far) (near ++ after) (IsPermutation-sym (near ++ item ∷ far) (item ∷ (near ++ far)) (IsPermutation-middle near item far)) (IsPermutation-append_right near (item ∷ far) after now))

pub taken_near : (item : Reverse Wait) (near far after : List (Reverse Wait)) → IsPermutation near (item ∷ after) → IsPermutation (waits_of (near ++ far)) (item.0 ∷ waits_of (after ++ far))
taken_near item near far after now = IsPermutation-map (λ (it : Reverse Wait). it.0) (near ++ far) (item ∷ (after ++ far)) (IsPermutation-append_left far near (item ∷ after) now)

pub kept_both : (p : Wait → Bool) (near far kept after left : List (Reverse Wait)) → kept ≡ filter (λ (it : Reverse Wait). p it.0) near → IsPermutation kept after → left ≡ filter (λ (it : Reverse Wait). p it.0) far → IsPermutation (filter p (waits_of (near ++ far))) (waits_of (after ++ left))
kept_both p near far kept after left is now behind =
    let test : Reverse Wait → Bool = λ (it : Reverse Wait). p it.0 in
    let both : kept ++ left ≡ filter test (near ++ far) = ap (λ (l : List (Reverse Wait)). l ++ left) is ∙ ap (λ (l : List (Reverse Wait)). filter test near ++ l) behind ∙ sym (filter-append test near far) in
    subst (λ (waits : List Wait). IsPermutation waits (waits_of (after ++ left))) (ap (λ (l : List (Reverse Wait)). waits_of l) both ∙ filtered p (near ++ far))
    (IsPermutation-map (λ (it : Reverse Wait). it.0) (kept ++ left) (after ++ left) (IsPermutation-append_left left kept after now))

-- ---- the first

-- the first of the heap is the first of all
pub head_near : (near far : List (Reverse Wait)) (first : Reverse Wait) → 0 < length near → first ≡ slice_index_or near 0 first → head (waits_of (near ++ far)) ≡ Some first.0
head_near [] far first some top = absurd (omega arith)
head_near (item ∷ near) far first some top = ap (λ (it : Reverse Wait). Some it.0) (sym top)

pub none_below : (bound : ℕ) (waits : List Wait) → All (IsFrom bound) waits → first_below bound (head waits) ≡ None
none_below bound [] from = refl
none_below bound (wait ∷ waits) from = rw (le-ltb wait.0.0 bound (from 0 wait (omega arith))) refl

-- what is so of the first is so of the first below a bound
pub where_below : (bound : ℕ) (waits : List Wait) (first : Wait) (P : Wait → Type 0) → head waits ≡ Some first → P first → IfSome (first_below bound (head waits)) P
where_below bound waits first P is holds = subst (λ (r : Option Wait). IfSome (first_below bound r) P) (sym is) (elim (cases_Bool (nat_lt first.0.0 bound)) [ inl is_below ↦ rw is_below holds | inr not_below ↦ rw not_below tt ])

pub where_none : (bound : ℕ) (waits : List Wait) (P : Wait → Type 0) → All (IsFrom bound) waits → IfSome (first_below bound (head waits)) P
where_none bound waits P from = subst (λ (r : Option Wait). IfSome r P) (sym (none_below bound waits from)) tt

before_later : (a b : Wait) → a.0.0 < b.0.0 → IsBefore a b
before_later a b less = rw (le-ltb b.0.0 a.0.0 (omega arith), ne_eqb b.0.0 a.0.0 (λ same. omega (arith, same))) refl

-- nothing is below the bound
all_far : (bound : ℕ) (far : List (Reverse Wait)) → All (IsItemFrom bound) far → All (IsFrom bound) (waits_of far)
all_far bound far from = All-map (IsFrom bound) (λ (it : Reverse Wait). it.0) far from

pub all_from : (bound : ℕ) (near far : List (Reverse Wait)) (first : Reverse Wait) → AllByRecursion (λ other. lt_by_cmp reversed_cmp first other ≡ false) near → bound ≤ first.0.0.0 → All (IsItemFrom bound) far → All (IsFrom bound) (waits_of (near ++ far))
all_from bound near far first greatest late from =
    subst (λ (waits : List Wait). All (IsFrom bound) waits) (sym (map-append (λ (it : Reverse Wait). it.0) near far))
    (All-append (IsFrom bound) (waits_of near) (waits_of far)
    (All-weaker (IsBefore first.0) (IsFrom bound) (λ wait before. (let low = not_less first.0 wait before in omega arith)) (waits_of near) (All-from_recursion (IsBefore first.0) (waits_of near) (all_before first near greatest)))
    (all_far bound far from))

pub none_there : (bound : ℕ) (near far : List (Reverse Wait)) → length near ≡ 0 → All (IsItemFrom bound) far → All (IsFrom bound) (waits_of (near ++ far))
none_there bound [] far none from = all_far bound far from
none_there bound (item ∷ near) far none from = absurd (omega (arith, none))

-- the first of the heap, if it is below the bound, is before all
pub first_of_both : (bound : ℕ) (near far : List (Reverse Wait)) (first : Reverse Wait) → AllByRecursion (λ other. lt_by_cmp reversed_cmp first other ≡ false) near → first.0.0.0 < bound → All (IsItemFrom bound) far → AllByRecursion (IsBefore first.0) (waits_of (near ++ far))
first_of_both bound near far first greatest less from =
    recursion_from_All (IsBefore first.0) (waits_of (near ++ far))
    (subst (λ (waits : List Wait). All (IsBefore first.0) waits) (sym (map-append (λ (it : Reverse Wait). it.0) near far))
    (All-append (IsBefore first.0) (waits_of near) (waits_of far)
    (All-from_recursion (IsBefore first.0) (waits_of near) (all_before first near greatest))
    (All-weaker (IsFrom bound) (IsBefore first.0) (λ wait late. before_later first.0 wait (omega (arith, late, less))) (waits_of far) (all_far bound far from))))
