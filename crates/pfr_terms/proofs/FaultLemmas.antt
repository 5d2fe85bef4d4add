-- Which of two faults is reported.
use Rattle.std.proofs.Common.{◌≡◌, ◌≤◌, ◌⊎◌, inl, inr, ◌==◌, ◌&&◌, ◌||◌, Bool, true, false, if◌then◌else◌, nat_le, nat_lt, Some, refl, arith, ltb-true, ltb-false, leb-true, leb-false, eqb-true}
use Rattle.std.proofs.lemmas.Bool.{eqb-false}
use Rattle.pfr_terms.specs.declared.error.ConfError.{ConfError}
use Rattle.pfr_terms.specs.Faults.{kind_number, lower}

pub record IsReported (first second e : ConfError) : Type 0 where
  pub one : (e ≡ first) ⊎ (e ≡ second)
  pub of_first : kind_number e.kind ≤ kind_number first.kind
  pub of_second : kind_number e.kind ≤ kind_number second.kind
  pub line : kind_number first.kind ≡ kind_number second.kind → (e.line ≤ first.line) × (e.line ≤ second.line)

reported_by : (first second : ConfError) (before same low : Bool) → nat_lt (kind_number first.kind) (kind_number second.kind) ≡ before → (kind_number first.kind == kind_number second.kind) ≡ same → nat_le first.line second.line ≡ low
    → IsReported first second (if before || (same && low) then first else second)
reported_by first second true same low a b c = let less = ltb-true _ _ a in
    record { one = inl refl; of_first = omega arith; of_second = omega (arith, less); line = λ e. absurd (omega (arith, less, e)) }
reported_by first second false true true a b c = let same = eqb-true _ _ b in let below = leb-true _ _ c in
    record { one = inl refl; of_first = omega arith; of_second = omega (arith, same); line = λ e. (omega arith, below) }
reported_by first second false true false a b c = let same = eqb-true _ _ b in let below = leb-false _ _ c in
    record { one = inr refl; of_first = omega (arith, same); of_second = omega arith; line = λ e. (omega (arith, below), omega arith) }
reported_by first second false false low a b c = let most = ltb-false _ _ a in
    record { one = inr refl; of_first = most; of_second = omega arith; line = λ e. absurd (eqb-false _ _ b e) }

pub reported : (first second : ConfError) → IsReported first second (lower (Some first) second)
unfolding lower
reported first second = reported_by first second _ _ _ refl refl refl
