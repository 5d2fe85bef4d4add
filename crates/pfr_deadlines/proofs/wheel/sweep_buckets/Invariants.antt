use Rattle.std.proofs.Common.{◌≡◌, ◌<◌, ◌≤◌, ℕ, Bool, length, get_or}
use Rattle.std.specs.List.{filter}
use Rattle.pfr_deadlines.specs.Waits.{Decides, Wait}
use Rattle.pfr_deadlines.specs.Wheel.{Bucket, IsPart}
use Rattle.pfr_deadlines.proofs.wheel.sweep_buckets.Given as goal

abbrev pub invariant-loop-index : goal.invariant-loop-index
invariant-loop-index g l = record {
  callable : goal.F-IsAlwaysCallable g l.is_kept;
  even : length l.buckets.items ≡ length l.initial.buckets.items;
  fewer : (k : ℕ) (d : Bucket) → IsPart (get_or l.buckets.items k d).items (get_or l.initial.buckets.items k d).items;
  swept : (test : Wait → Bool) → Decides (goal.F-post g l.is_kept) test → (k : ℕ) (d : Bucket) → k < l.index → (get_or l.buckets.items k d).items ≡ filter (λ wait. test wait.0) (get_or l.initial.buckets.items k d).items;
  left : (k : ℕ) (d : Bucket) → l.index ≤ k → get_or l.buckets.items k d ≡ get_or l.initial.buckets.items k d;
}
