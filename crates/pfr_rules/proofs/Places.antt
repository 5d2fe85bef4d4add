-- The first and the last place at which a test holds.
use Rattle.std.proofs.Common.{◌≡◌, ◌<◌, ◌≤◌, ◌&&◌, ◌||◌, ℕ, zero, suc, Bool, true, false, if◌then◌else◌, inl, inr, Option, Some, None, refl, arith}
use Rattle.std.proofs.lemmas.Bool.{cases_lt}
use Rattle.pfr_rules.specs.Filter.{last_below, first_below, some_below, or_place}

within_one : (p : ℕ → Bool) (n d : ℕ) (b : Bool) → p n ≡ b → (if b then Some n else last_below p n) ≡ Some d → (last_below p n ≡ Some d → (d < n) × (p d ≡ true)) → (d < suc n) × (p d ≡ true)
within_one p n d true here is rest = (let e : n ≡ d = cc in (omega (arith, e), rw (← e) here))
within_one p n d false here is rest = (let r = rest is in (omega (arith, r.0), r.1))

pub last_within : (p : ℕ → Bool) (n d : ℕ) → last_below p n ≡ Some d → (d < n) × (p d ≡ true)
last_within p zero d is = absurd cc
last_within p (suc n) d is = within_one p n d (p n) refl is (last_within p n d)

after_one : (p : ℕ → Bool) (n d k : ℕ) (b : Bool) → p n ≡ b → (if b then Some n else last_below p n) ≡ Some d → d < k → k < suc n → (last_below p n ≡ Some d → k < n → p k ≡ false) → p k ≡ false
after_one p n d k true here is after within rest = (let e : n ≡ d = cc in absurd (omega (arith, e, after, within)))
after_one p n d k false here is after within rest = elim (cases_lt k n) [
  | inl below ↦ rest is below
  | inr above ↦ let e : k ≡ n = omega (arith, above, within) in rw e here
]

pub none_after : (p : ℕ → Bool) (n d k : ℕ) → last_below p n ≡ Some d → d < k → k < n → p k ≡ false
none_after p zero d k is after within = absurd (omega (arith, within))
none_after p (suc n) d k is after within = after_one p n d k (p n) refl is after within (λ i w. none_after p n d k i after w)

all_one : (p : ℕ → Bool) (n k : ℕ) (b : Bool) → p n ≡ b → (if b then Some n else last_below p n) ≡ None → k < suc n → (last_below p n ≡ None → k < n → p k ≡ false) → p k ≡ false
all_one p n k true here is within rest = absurd cc
all_one p n k false here is within rest = elim (cases_lt k n) [
  | inl below ↦ rest is below
  | inr above ↦ let e : k ≡ n = omega (arith, above, within) in rw e here
]

pub none_at_all : (p : ℕ → Bool) (n k : ℕ) → last_below p n ≡ None → k < n → p k ≡ false
none_at_all p zero k is within = absurd (omega (arith, within))
none_at_all p (suc n) k is within = all_one p n k (p n) refl is within (λ i w. none_at_all p n k i w)

-- places at which the test fails change nothing
pub last_skips : (p : ℕ → Bool) (n m : ℕ) → n ≤ m → ((k : ℕ) → n ≤ k → k < m → p k ≡ false) → last_below p m ≡ last_below p n
last_skips p n zero le fails = let e : n ≡ 0 = omega (arith, le) in rw e refl
last_skips p n (suc m) le fails = elim (cases_lt m n) [
  | inl top ↦ let e : n ≡ suc m = omega (arith, le, top) in rw e refl
  | inr below ↦
      let here : p m ≡ false = fails m below (omega arith) in
      let rest = last_skips p n m below (λ k above within. fails k above (omega (arith, within))) in
      rw here rest
]

pub first_none : (p : ℕ → Bool) (n : ℕ) → ((k : ℕ) → k < n → p k ≡ false) → first_below p n ≡ None
first_none p zero fails = refl
first_none p (suc n) fails =
    let rest = first_none p n (λ k within. fails k (omega (arith, within))) in
    let here : p n ≡ false = fails n (omega arith) in
    rw (rest, here) refl

both_none : (o : Option ℕ) (n : ℕ) (b : Bool) → or_place o (if b then Some n else None) ≡ None → (o ≡ None) × (b ≡ false)
both_none None n true none = absurd cc
both_none None n false none = (refl, refl)
both_none (Some d) n b none = absurd cc

pub none_first : (p : ℕ → Bool) (n k : ℕ) → first_below p n ≡ None → k < n → p k ≡ false
none_first p zero k none within = absurd (omega (arith, within))
none_first p (suc n) k none within =
    let both = both_none (first_below p n) n (p n) none in
    elim (cases_lt k n) [
      | inl below ↦ none_first p n k both.0 below
      | inr above ↦ let e : k ≡ n = omega (arith, above, within) in rw e both.1
    ]

pub first_found : (p : ℕ → Bool) (n m : ℕ) → first_below p n ≡ None → p n ≡ true → n < m → first_below p m ≡ Some n
first_found p n zero none here within = absurd (omega (arith, within))
first_found p n (suc m) none here within = elim (cases_lt n m) [
  | inl below ↦ let rest = first_found p n m none here below in rw rest refl
  | inr above ↦ let e : m ≡ n = omega (arith, above, within) in rw e (rw (none, here) refl)
]

pub and_both : (b c : Bool) → (b && c) ≡ true → (b ≡ true) × (c ≡ true)
and_both true true is = (refl, refl)
and_both true false is = absurd cc
and_both false c is = absurd cc

pub or_left : (b c : Bool) → b ≡ true → (b || c) ≡ true
or_left true c is = refl
or_left false c is = absurd cc

pub or_right : (b c : Bool) → c ≡ true → (b || c) ≡ true
or_right true c is = refl
or_right false c is = is

pub some_at : (p : ℕ → Bool) (n k : ℕ) → k < n → p k ≡ true → some_below p n ≡ true
some_at p zero k within here = absurd (omega (arith, within))
some_at p (suc n) k within here = elim (cases_lt k n) [
  | inl below ↦ or_left (some_below p n) (p n) (some_at p n k below here)
  | inr above ↦ let e : n ≡ k = omega (arith, above, within) in or_right (some_below p n) (p n) (rw e here)
]

abbrev Found : (ℕ → Bool) → ℕ → Type 0
Found p n = (k : ℕ) × (k < n) × (p k ≡ true)

found_one : (p : ℕ → Bool) (n : ℕ) (b : Bool) → some_below p n ≡ b → (b || p n) ≡ true → (some_below p n ≡ true → Found p n) → Found p (suc n)
found_one p n true is some rest = (let r = rest is in (r.0, omega (arith, r.1), r.2))
found_one p n false is some rest = (n, omega arith, some)

pub some_found : (p : ℕ → Bool) (n : ℕ) → some_below p n ≡ true → (k : ℕ) × (k < n) × (p k ≡ true)
some_found p zero some = absurd cc
some_found p (suc n) some = found_one p n (some_below p n) refl some (some_found p n)
