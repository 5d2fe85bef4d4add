use Rattle.std.proofs.Common.{◌<◌, ◌≤◌, ◌-◌, ◌++◌, ℕ, get_or, length}
use Rattle.std.specs.BinaryHeap.{IsHeap, heap_items}
use Rattle.std.specs.List.Sorted.{IsPermutation}
use Rattle.std.specs.declared.cmp.Reverse.{Reverse}
use Rattle.pfr_deadlines.specs.Waits.{Wait, reversed_cmp}
use Rattle.pfr_deadlines.specs.Wheel.{IsItemFrom, IsPart}
use Rattle.pfr_deadlines.proofs.wheel.take_before.Given as goal

abbrev pub invariant-loop-index : goal.invariant-loop-index
invariant-loop-index l = record {
  heap : IsHeap reversed_cmp (heap_items l.initial.near) → IsHeap reversed_cmp (heap_items l.near);
  same : IsPermutation (heap_items l.initial.near ++ l.initial.bucket.items) (heap_items l.near ++ l.bucket.items);
  fewer : IsPart l.bucket.items l.initial.bucket.items;
  within : l.index ≤ length l.bucket.items;
  done : (k : ℕ) (d : Reverse Wait) → k < l.index → IsItemFrom l.end (get_or l.bucket.items k d);
}

abbrev pub decreases-loop-index : goal.decreases-loop-index
decreases-loop-index l = length l.bucket.items - l.index
