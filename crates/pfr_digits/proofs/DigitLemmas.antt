-- The digits of a number, two at a time.
use Rattle.std.proofs.Common.{◌≡◌, ℕ, zero, suc, ◌+◌, ◌-◌, ◌*◌, ◌/◌, ◌%◌, ◌^◌, ◌<◌, ◌≤◌, Bool, true, ◌&&◌, T, eqb, List, [], ◌∷◌, ◌++◌, length, get_or, ap, ◌∙◌, inl, inr, arith, eq-zero-or-pos, eqb→eq, append_assoc, length-append}
use Rattle.std.proofs.lemmas.Fmt.{decimal_digit, decimal_step}
use Rattle.std.specs.Fmt.{decimal}
use lib.Ieee.Fits.{and_l, and_r}
use Rattle.pfr_digits.specs.declared.digits.TheConstants.{PAIRS}

abbrev pub pair : ℕ → List ℕ
pair number = (48 + number / 10) ∷ (48 + number % 10) ∷ []

-- the table has the digits of each number below another
abbrev are_pairs : ℕ → Bool
are_pairs zero = true
are_pairs (suc p) = (eqb (get_or PAIRS (p * 2) 0) (48 + p / 10) && eqb (get_or PAIRS (p * 2 + 1) 0) (48 + p % 10)) && are_pairs p

pairs_below : (n p : ℕ) → T (are_pairs n) → p < n → (get_or PAIRS (p * 2) 0 ≡ 48 + p / 10) × (get_or PAIRS (p * 2 + 1) 0 ≡ 48 + p % 10)
pairs_below zero p t h = absurd (omega arith)
pairs_below (suc n) p t h =
    elim (eq-zero-or-pos (n - p)) [
      | inl z ↦ let e : p ≡ n = omega arith in let a = and_l _ (are_pairs n) t in rw e (eqb→eq _ _ (and_l _ _ a), eqb→eq _ _ (and_r _ _ a))
      | inr g ↦ pairs_below n p (and_r _ (are_pairs n) t) (omega arith)
    ]

pub pair_at : (p : ℕ) → p < 100 → (get_or PAIRS (p * 2) 0 ≡ 48 + p / 10) × (get_or PAIRS (p * 2 + 1) 0 ≡ 48 + p % 10)
pair_at p h = pairs_below 100 p tt h

pub length_one : (n : ℕ) → n < 10 → length (decimal n) ≡ 1
length_one n h = ap length (decimal_digit n h)

pub decimal_two : (n : ℕ) → 10 ≤ n → n < 100 → decimal n ≡ pair n
decimal_two n low high = rw (decimal_step n low (omega arith), decimal_digit (n / 10) (omega arith))

pub length_two : (n : ℕ) → 10 ≤ n → n < 100 → length (decimal n) ≡ 2
length_two n low high = ap length (decimal_two n low high)

-- the last two digits stand behind those of the rest
pub decimal_pair : (n : ℕ) → 100 ≤ n → n < 2 ^ 64 → decimal n ≡ decimal (n / 100) ++ pair (n % 100)
decimal_pair n low high =
    let a : n / 10 / 10 ≡ n / 100 = omega arith in
    let b : n / 10 % 10 ≡ n % 100 / 10 = omega arith in
    let c : n % 10 ≡ n % 100 % 10 = omega arith in
    rw (decimal_step n (omega arith) high, decimal_step (n / 10) (omega arith) (omega arith), append_assoc, a, b, ← c)

pub length_pair : (n : ℕ) → 100 ≤ n → n < 2 ^ 64 → length (decimal n) ≡ length (decimal (n / 100)) + 2
length_pair n low high = ap length (decimal_pair n low high) ∙ length-append _ _

pub length_joined : (whole first rest : List ℕ) → whole ≡ first ++ rest → length whole ≡ length first + length rest
length_joined whole first rest is = ap length is ∙ length-append first rest
