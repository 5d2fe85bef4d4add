use Rattle.std.proofs.Common.{◌<◌, ◌+◌, ◌++◌, ℕ, ◌%◌}
use Rattle.std.specs.BinaryHeap.{IsHeap, heap_items}
use Rattle.std.specs.List.Sorted.{IsPermutation}
use Rattle.pfr_deadlines.specs.Waits.{reversed_cmp}
use Rattle.pfr_deadlines.specs.Wheel.{ArePart, IsTaken, items_of}
use Rattle.pfr_deadlines.proofs.wheel.take_seconds.Given as goal

abbrev pub invariant-loop-ahead : goal.invariant-loop-ahead
invariant-loop-ahead l = record {
  heap : IsHeap reversed_cmp (heap_items l.initial.near) → IsHeap reversed_cmp (heap_items l.near);
  same : IsPermutation (heap_items l.initial.near ++ items_of l.initial.buckets.items) (heap_items l.near ++ items_of l.buckets.items);
  fewer : ArePart l.buckets.items l.initial.buckets.items;
  done : (k : ℕ) → k < l.ahead → IsTaken l.end ((l.from + k) % 256) l.buckets.items;
}
