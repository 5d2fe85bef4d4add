-- The order of deadlines.
use Rattle.std.proofs.Common.{◌≡◌, ◌<◌, ◌≤◌, ℕ, refl, inl, inr, arith}
use Rattle.std.specs.Ordering.{is_lt, nat_cmp}
use Rattle.std.specs.declared.cmp.Ordering.TheVariants.{Less, Equal}
use Rattle.std.proofs.lemmas.Bool.{both_ways, cases_order, eq-eqb, le-ltb, lt-ltb}
use Rattle.pfr_deadlines.specs.Waits.{IsBefore, Wait, wait_cmp}

is_less : (a b : ℕ) → a < b → nat_cmp a b ≡ Less
is_less a b less = rw (lt-ltb a b less) refl

is_same : (a b : ℕ) → a ≡ b → nat_cmp a b ≡ Equal
is_same a b same = rw (le-ltb a b (omega (arith, same)), eq-eqb a b same) refl

pub not_less : (a b : Wait) → IsBefore a b → a.0.0 ≤ b.0.0
not_less a b before = elim (cases_order b.0.0 a.0.0) [
  | inl same ↦ omega (arith, same)
  | inr (inl less) ↦ absurd (both_ways (is_lt (wait_cmp b a)) before (rw (is_less b.0.0 a.0.0 less) refl))
  | inr (inr more) ↦ omega arith
]

pub not_under : (a b : Wait) → IsBefore a b → b.0.0 ≡ a.0.0 → a.1.0 ≤ b.1.0
not_under a b before level = elim (cases_order b.1.0 a.1.0) [
  | inl same ↦ omega (arith, same)
  | inr (inl less) ↦ absurd (both_ways (is_lt (wait_cmp b a)) before (rw (is_same b.0.0 a.0.0 level, is_less b.1.0 a.1.0 less) refl))
  | inr (inr more) ↦ omega arith
]
