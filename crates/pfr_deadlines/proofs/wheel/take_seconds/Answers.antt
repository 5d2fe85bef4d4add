use Rattle.std.proofs.Common.{◌++◌}
use Rattle.std.specs.BinaryHeap.{heap_items}
use Rattle.std.proofs.lemmas.List.Sorted.{IsPermutation-trans}
use Rattle.pfr_deadlines.specs.Wheel.{items_of}
use Rattle.pfr_deadlines.proofs.WheelLemmas.{part_of_part, taken_more}
use Rattle.pfr_deadlines.proofs.wheel.take_seconds.Goals as goal

pub returns-in_err-take_at-clause-same : goal.returns-in_err-take_at-clause-same
returns-in_err-take_at-clause-same c =
    IsPermutation-trans (heap_items c.args.near.now ++ items_of c.args.buckets.now.items) (heap_items c.loop-ahead.near ++ items_of c.loop-ahead.buckets.items) (heap_items c.take_at.new.near ++ items_of c.take_at.new.buckets.items) c.loop-ahead.invariant.same c.take_at.ensures.same

pub loop-ahead-preserved : goal.loop-ahead-preserved
loop-ahead-preserved c = record {
  heap = λ was. c.take_at.ensures.heap (c.loop-ahead.invariant.heap was);
  same = IsPermutation-trans (heap_items c.args.near.now ++ items_of c.args.buckets.now.items) (heap_items c.loop-ahead.near ++ items_of c.loop-ahead.buckets.items) (heap_items c.take_at.new.near ++ items_of c.take_at.new.buckets.items) c.loop-ahead.invariant.same c.take_at.ensures.same;
  fewer = part_of_part c.take_at.new.buckets.items c.loop-ahead.buckets.items c.args.buckets.now.items c.take_at.ensures.fewer c.loop-ahead.invariant.fewer;
  done = taken_more c.args.from c.loop-ahead.ahead c.args.end c.take_at.new.buckets.items c.loop-ahead.buckets.items c.take_at.ensures.fewer c.loop-ahead.invariant.done c.in_ok-take_at.ensures.done;
}
