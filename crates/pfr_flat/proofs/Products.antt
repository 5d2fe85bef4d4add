-- Products that are counted up to a limit.
use Rattle.std.proofs.Common.{◌≡◌, ◌≤◌, ℕ, ◌+◌, ◌*◌, min, nat_lt, true, false, ◌⊎◌, inl, inr, refl, arith}
use Rattle.std.proofs.lemmas.Bool.{cases_lt, ltb-false, lt-ltb}
use Rattle.std.proofs.lemmas.Nat.{mul-le}

-- a factor that is counted up to the limit is itself, or the product passes the limit as well
capped_or_large : (a b : ℕ) → (min a 65537 ≡ a) ⊎ ((b ≡ 0) ⊎ ((65537 ≤ min a 65537 * b) × (65537 ≤ a * b)))
capped_or_large a b = elim (cases_lt a 65537) [
  | inl small ↦ inl (omega arith)
  | inr large ↦ inr (elim (cases_lt 0 b) [
    | inl some ↦
        (let e : min a 65537 ≡ 65537 = omega arith in
        let p : 65537 * 1 ≤ 65537 * b = mul-le 65537 1 65537 b (omega arith) some in
        let q : 65537 * 1 ≤ a * b = mul-le 65537 1 a b large some in
        inr (rw e (omega (arith, p)), omega (arith, q)))
    | inr none ↦ inl (omega arith)
  ])
]

pub capped_product : (a b : ℕ) → min (min a 65537 * b) 65537 ≡ min (a * b) 65537
capped_product a b = elim (capped_or_large a b) [
  | inl e ↦ rw e refl
  | inr more ↦ elim more [
    | inl none ↦ rw none (omega arith)
    | inr large ↦ omega (arith, large.0, large.1)
  ]
]

pub exceeds_capped : (used before a b : ℕ) → nat_lt 65536 (used + (before + min a 65537 * b)) ≡ nat_lt 65536 (used + (before + a * b))
exceeds_capped used before a b = elim (capped_or_large a b) [
  | inl e ↦ rw e refl
  | inr more ↦ elim more [
    | inl none ↦ (let e : min a 65537 * b ≡ a * b = rw none (omega arith) in rw e refl)
    | inr large ↦
        (let capped : nat_lt 65536 (used + (before + min a 65537 * b)) ≡ true = lt-ltb 65536 (used + (before + min a 65537 * b)) (omega (arith, large.0)) in
        let whole : nat_lt 65536 (used + (before + a * b)) ≡ true = lt-ltb 65536 (used + (before + a * b)) (omega (arith, large.1)) in
        rw capped (rw whole refl))
  ]
]

pub count_capped : (used before a b : ℕ) → nat_lt 65536 (used + (before + min a 65537 * b)) ≡ false → before + min a 65537 * b ≡ before + a * b
count_capped used before a b few = elim (capped_or_large a b) [
  | inl e ↦ rw e refl
  | inr more ↦ elim more [
    | inl none ↦ (let e : min a 65537 * b ≡ a * b = rw none (omega arith) in rw e refl)
    | inr large ↦ (let le : used + (before + min a 65537 * b) ≤ 65536 = ltb-false 65536 (used + (before + min a 65537 * b)) few in absurd (omega (arith, le, large.0)))
  ]
]
