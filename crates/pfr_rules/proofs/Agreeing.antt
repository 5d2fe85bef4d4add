-- Walks by tests that agree on all that is reached.
use Rattle.std.proofs.Common.{◌≡◌, ◌∙◌, ◌<◌, ◌≤◌, ◌+◌, ◌&&◌, ◌||◌, ◌==◌, inl, inr, ℕ, zero, suc, nat_le, Bool, true, false, not, if◌then◌else◌, List, [], ◌∷◌, Option, Some, None, sym, refl, arith}
use Rattle.std.specs.List.{slice_get, list_any, list_all, filter}
use Rattle.std.proofs.lemmas.Bool.{cases_lt, eqb-true}
use Rattle.std.proofs.lemmas.List.Elements.{filter-append}
use Rattle.pfr_ruleset.specs.declared.flat.FlatRule.{FlatRule}
use Rattle.pfr_ruleset.specs.declared.flat.FlatAnchor.{FlatAnchor}
use Rattle.pfr_rules.specs.Filter.{last_below, first_below, some_below, some_in, or_place, ends, is_inside, is_quick, is_round, is_stop, passes, up_to}
use Rattle.pfr_rules.specs.Numbers.{numbers_below}
use Rattle.pfr_rules.proofs.Places.{first_found, first_none, none_first}

-- ---- tests

-- two tests agree below a bound
abbrev pub AgreeBelow : ℕ → (ℕ → Bool) → (ℕ → Bool) → Type 0
AgreeBelow n p q = (k : ℕ) → k < n → q k ≡ p k

pub last_same : (n : ℕ) (p q : ℕ → Bool) → AgreeBelow n p q → last_below q n ≡ last_below p n
last_same zero p q same = refl
last_same (suc n) p q same =
    let here = same n (omega arith) in
    let rest = last_same n p q (λ k below. same k (omega (arith, below))) in
    rw (here, rest) refl

some_same : (n : ℕ) (p q : ℕ → Bool) → AgreeBelow n p q → some_below q n ≡ some_below p n
some_same zero p q same = refl
some_same (suc n) p q same =
    let here = same n (omega arith) in
    let rest = some_same n p q (λ k below. same k (omega (arith, below))) in
    rw (here, rest) refl

pub none_below : (p : ℕ → Bool) (n : ℕ) → ((k : ℕ) → k < n → p k ≡ false) → some_below p n ≡ false
none_below p zero fails = refl
none_below p (suc n) fails =
    let here = fails n (omega arith) in
    let rest = none_below p n (λ k below. fails k (omega (arith, below))) in
    rw (rest, here) refl

one_same : (p q : ℕ → Bool) (n : ℕ) → q n ≡ p n → filter q (n ∷ []) ≡ filter p (n ∷ [])
one_same p q n here = rw here refl

numbers_same : (n : ℕ) (p q : ℕ → Bool) → AgreeBelow n p q → filter q (numbers_below n) ≡ filter p (numbers_below n)
numbers_same zero p q same = refl
numbers_same (suc n) p q same =
    let here = one_same p q n (same n (omega arith)) in
    let rest = numbers_same n p q (λ k below. same k (omega (arith, below))) in
    filter-append q (numbers_below n) (n ∷ []) ∙ rw (here, rest) (sym (filter-append p (numbers_below n) (n ∷ [])))

any_same : {X : Type 0} (p q : X → Bool) (xs : List X) → ((x : X) → q x ≡ p x) → list_any q xs ≡ list_any p xs
any_same p q [] same = refl
any_same p q (x ∷ xs) same = rw (same x, any_same p q xs same) refl

all_same : {X : Type 0} (p q : X → Bool) (xs : List X) → ((x : X) → q x ≡ p x) → list_all q xs ≡ list_all p xs
all_same p q [] same = refl
all_same p q (x ∷ xs) same = rw (same x, all_same p q xs same) refl

pub and_left : (b c : Bool) → b ≡ false → (b && c) ≡ false
and_left b c is = rw is refl

pub and_right : (b c : Bool) → c ≡ false → (b && c) ≡ false
and_right true c is = is
and_right false c is = refl

and_same : (b c d : Bool) → (b ≡ true → c ≡ d) → (b && c) ≡ (b && d)
and_same true c d same = same refl
and_same false c d same = refl

-- ---- the first place at which a test holds

-- it holds there, and nowhere before
abbrev IsFirst : (ℕ → Bool) → ℕ → ℕ → Type 0
IsFirst p n s = (first_below p s ≡ None) × (p s ≡ true) × (s < n)

first_one : (p : ℕ → Bool) (n s : ℕ) (o : Option ℕ) (b : Bool) → first_below p n ≡ o → p n ≡ b → or_place o (if b then Some n else None) ≡ Some s → (first_below p n ≡ Some s → IsFirst p n s) → IsFirst p (suc n) s
first_one p n s (Some d) b is here found rest = (let r = rest (is ∙ found) in (r.0, r.1, omega (arith, r.2)))
first_one p n s None true is here found rest = (let e : n ≡ s = cc in (rw (← e) is, rw (← e) here, omega (arith, e)))
first_one p n s None false is here found rest = absurd cc

first_is : (p : ℕ → Bool) (n s : ℕ) → first_below p n ≡ Some s → IsFirst p n s
first_is p zero s found = absurd cc
first_is p (suc n) s found = first_one p n s (first_below p n) (p n) refl refl found (first_is p n s)

-- a test that agrees with it up to there has the same
pub first_moves : (p q : ℕ → Bool) (n m s : ℕ) → first_below p n ≡ Some s → s < m → AgreeBelow (s + 1) p q → first_below q m ≡ Some s
first_moves p q n m s found within same =
    let first = first_is p n s found in
    let none = first_none q s (λ k below. same k (omega (arith, below)) ∙ none_first p s k first.0 below) in
    first_found q s m none (same s (omega arith) ∙ first.1) within

by_place_one : (p : ℕ → Bool) (n place : ℕ) (o : Option ℕ) → first_below p n ≡ o → place < n → p place ≡ true → (s : ℕ) × (first_below p n ≡ Some s) × (s ≤ place)
by_place_one p n place None is within holds = (let fails = none_first p n place is within in absurd (cc (fails, holds)))
by_place_one p n place (Some s) is within holds = elim (cases_lt place s) [
  | inl before ↦ let fails = none_first p s place (first_is p n s is).0 before in absurd (cc (fails, holds))
  | inr after ↦ (s, is, after)
]

-- if a test holds at a place, the first one is there or before it
pub by_place : (p : ℕ → Bool) (n place : ℕ) → place < n → p place ≡ true → (s : ℕ) × (first_below p n ≡ Some s) × (s ≤ place)
by_place p n place within holds = by_place_one p n place (first_below p n) refl within holds

first_kept_one : (p q : ℕ → Bool) (n : ℕ) (o : Option ℕ) → first_below p n ≡ o → AgreeBelow (up_to o n) p q → first_below q n ≡ o
first_kept_one p q n None is same = first_none q n (λ k below. same k below ∙ none_first p n k is below)
first_kept_one p q n (Some s) is same = first_moves p q n n s is (first_is p n s is).2 same

-- stops that agree on all that is reached have the same first one
pub first_kept : (p q : ℕ → Bool) (n : ℕ) → AgreeBelow (up_to (first_below p n) n) p q → first_below q n ≡ first_below p n
first_kept p q n same = first_kept_one p q n (first_below p n) refl same

-- ---- anchors and stops

-- anchors that hold alike let in the same
pub inside_same : (anchored other : FlatAnchor → Bool) (anchors : List FlatAnchor) (place : ℕ) → ((a : FlatAnchor) → other a ≡ anchored a) → is_inside other anchors place ≡ is_inside anchored anchors place
inside_same anchored other anchors place same = all_same (λ a. not (is_round a place) || anchored a) (λ a. not (is_round a place) || other a) anchors (λ a. (let e = same a in rw e refl))

some_in_same : (p q : ℕ → Bool) (a : FlatAnchor) → AgreeBelow (a.last + 1) p q → some_in q a ≡ some_in p a
some_in_same p q a same = some_same (a.last + 1) (λ k. nat_le a.first k && p k) (λ k. nat_le a.first k && q k) (λ k below. and_same (nat_le a.first k) (q k) (p k) (λ from. same k below))

-- whether an anchor ends a walk at a place rests on the hits up to there
ends_same : (p q : ℕ → Bool) (place : ℕ) (a : FlatAnchor) → AgreeBelow (place + 1) p q → ends q place a ≡ ends p place a
ends_same p q place a same = and_same a.is_quick _ _ (λ quick. and_same (a.last == place) (some_in q a) (some_in p a) (λ at.
    let last = eqb-true a.last place at in
    some_in_same p q a (λ k below. same k (omega (arith, last, below)))))

-- a stop stays one where its own rule stays, and the anchors that end there
pub stop_same : (p q : ℕ → Bool) (rules others : List FlatRule) (xs ys : List FlatAnchor) (place : ℕ) → AgreeBelow (place + 1) p q
    → (passes is_quick (slice_get others place) && q place) ≡ (passes is_quick (slice_get rules place) && p place) → list_any (ends p place) ys ≡ list_any (ends p place) xs
    → is_stop q (record { rules = others; anchors = ys }) place ≡ is_stop p (record { rules = rules; anchors = xs }) place
stop_same p q rules others xs ys place same own anchors = (let each = any_same (ends p place) (ends q place) ys (λ a. ends_same p q place a same) in rw (own, each, anchors) refl)

-- the same rule, with the same hit
pub own_same : (rule other : Option FlatRule) (held hit : Bool) → other ≡ rule → hit ≡ held → (passes is_quick other && hit) ≡ (passes is_quick rule && held)
own_same rule other held hit rules hits = rw (rules, hits) refl

-- ---- walks

-- two walks that reach as far, by the hits and by what their anchors let in
abbrev pub AreSameWalks : (ℕ → Bool) → (ℕ → Bool) → (ℕ → Bool) → (ℕ → Bool) → ℕ → ℕ → Type 0
AreSameWalks p q inside within n m = (last_below q m ≡ last_below p n) × (filter within (numbers_below m) ≡ filter inside (numbers_below n))

pub same_walks : (p q inside within : ℕ → Bool) (n m : ℕ) → m ≡ n → AgreeBelow n p q → AgreeBelow n inside within → AreSameWalks p q inside within n m
same_walks p q inside within n m same hits_same insides_same = rw same (last_same n p q hits_same, numbers_same n inside within insides_same)
