-- Sums over the views of a table, and how often numbers stand in lists.
use Rattle.std.proofs.Common.{◌≡◌, ℕ, zero, suc, ◌+◌, ◌<◌, ◌≤◌, List, [], ◌∷◌, ◌++◌, set, max, refl, ap, sym, arith, length-append}
use Rattle.std.proofs.lemmas.Bool.Decides.{nat_tests}
use Rattle.std.proofs.lemmas.Grind.{common_steps}
use Rattle.std.proofs.lemmas.List.Elements.{All-cons, All-head, All-nil, All-tail, All-weaker}
use Rattle.std.specs.List.{All}
use Rattle.std.specs.List.Sorted.{IsStrictlyIncreasing}
use mathlib.Core.Option.{some, some-injective, some-ne-none}
use lib.ListN.{get_elem?}
use Rattle.pfr_claims.specs.declared.rule.SeatView.{SeatView}
use Rattle.pfr_claims.specs.Counting.{times, once_below}
use Rattle.pfr_claims.specs.Drawing.{total}

-- ---- sums over views

-- the sum after one view has changed
pub total_set : (of : SeatView → ℕ) (views : List SeatView) (seat : ℕ) (v w : SeatView) → get_elem? views seat ≡ some v → total of (set views seat w) + of v ≡ total of views + of w
total_set of [] seat v w at = absurd (some-ne-none v (sym at))
total_set of (x ∷ xs) zero v w at = let same : of x ≡ of v = ap of (some-injective x v at) in omega arith
total_set of (x ∷ xs) (suc seat) v w at = let rest = total_set of xs seat v w at in omega arith

-- one view has no more than all
pub total_at : (of : SeatView → ℕ) (views : List SeatView) (seat : ℕ) (v : SeatView) → get_elem? views seat ≡ some v → of v ≤ total of views
total_at of [] seat v at = absurd (some-ne-none v (sym at))
total_at of (x ∷ xs) zero v at = let same : of x ≡ of v = ap of (some-injective x v at) in omega arith
total_at of (x ∷ xs) (suc seat) v at = let rest = total_at of xs seat v at in omega arith

pub total_snoc : (of : SeatView → ℕ) (views : List SeatView) (v : SeatView) → total of (views ++ v ∷ []) ≡ total of views + of v
total_snoc of [] v = omega arith
total_snoc of (x ∷ xs) v = let rest = total_snoc of xs v in omega arith

-- if views with no whole have no part, and there is no whole, there is no part
total_none : (whole part : SeatView → ℕ) (views : List SeatView) → total whole views ≡ 0 → ((seat : ℕ) (w : SeatView) → get_elem? views seat ≡ some w → whole w ≡ 0 → part w ≡ 0) → total part views ≡ 0
total_none whole part [] none idle = refl
total_none whole part (x ∷ xs) none idle =
    let here : part x ≡ 0 = idle zero x refl (omega arith) in
    let rest : total part xs ≡ 0 = total_none whole part xs (omega arith) (λ seat w at. idle (suc seat) w at) in
    omega arith

-- the same, if one view has the whole: it has every part
pub total_alone : (whole part : SeatView → ℕ) (views : List SeatView) (seat : ℕ) (v : SeatView) → get_elem? views seat ≡ some v → total whole views ≡ whole v
    → ((other : ℕ) (w : SeatView) → get_elem? views other ≡ some w → whole w ≡ 0 → part w ≡ 0) → total part views ≡ part v
total_alone whole part [] seat v at all idle = absurd (some-ne-none v (sym at))
total_alone whole part (x ∷ xs) zero v at all idle =
    let same : whole x ≡ whole v = ap whole (some-injective x v at) in
    let here : part x ≡ part v = ap part (some-injective x v at) in
    let rest : total part xs ≡ 0 = total_none whole part xs (omega arith) (λ other w there. idle (suc other) w there) in
    omega arith
total_alone whole part (x ∷ xs) (suc seat) v at all idle =
    let less = total_at whole xs seat v at in
    let here : part x ≡ 0 = idle zero x refl (omega arith) in
    let rest : total part xs ≡ part v = total_alone whole part xs seat v at (omega arith) (λ other w there. idle (suc other) w there) in
    omega arith

-- ---- how often

pub times_append : (number : ℕ) (xs ys : List ℕ) → times number (xs ++ ys) ≡ times number xs + times number ys
times_append number [] ys = omega arith
times_append number (x ∷ xs) ys = let rest = times_append number xs ys in omega arith

-- each number of a list stands in it
pub times_here : (xs : List ℕ) → All (λ number. 0 < times number xs) xs
times_here [] = All-nil (λ number. 0 < times number [])
times_here (x ∷ xs) =
    All-cons (λ number. 0 < times number (x ∷ xs)) x xs
    (grind (arith, nat_tests))
    (All-weaker (λ number. 0 < times number xs) (λ number. 0 < times number (x ∷ xs)) (λ number there. omega arith) xs (times_here xs))

-- numbers that stand in a list only if they are below a bound are below it
pub all_below : (xs : List ℕ) (bound : ℕ) → ((number : ℕ) → times number xs ≤ once_below number bound) → All (λ number. number < bound) xs
all_below xs bound fits =
    All-weaker (λ number. 0 < times number xs) (λ number. number < bound) (λ number there. let f = fits number in omega arith) xs (times_here xs)

-- the next number is below the next bound, and no other one is new
pub once_more : (number bound : ℕ) → once_below number (bound + 1) ≡ once_below number bound + times number (bound ∷ [])
once_more number bound = grind (arith, nat_tests)

-- ---- rising lists

pub rises_push : (xs : List ℕ) (number : ℕ) → IsStrictlyIncreasing xs → All (λ earlier. earlier < number) xs → IsStrictlyIncreasing (xs ++ number ∷ [])
rises_push xs number rises below k within =
    let r = rises k in let b = below k 0 in grind (arith, common_steps, length-append)

-- ---- how far a list has come

-- the least bound that a list's numbers are below
abbrev pub bound_of : List ℕ → ℕ
bound_of [] = 0
bound_of (x ∷ xs) = max (x + 1) (bound_of xs)

pub bound_least : (xs : List ℕ) (bound : ℕ) → All (λ number. number < bound) xs → bound_of xs ≤ bound
bound_least [] bound below = omega arith
bound_least (x ∷ xs) bound below =
    let here : x < bound = All-head (λ number. number < bound) x xs below in
    let rest = bound_least xs bound (All-tail (λ number. number < bound) x xs below) in
    omega arith

pub bound_push : (xs : List ℕ) (number : ℕ) → number + 1 ≤ bound_of (xs ++ number ∷ [])
bound_push [] number = omega arith
bound_push (x ∷ xs) number = let rest = bound_push xs number in omega arith
