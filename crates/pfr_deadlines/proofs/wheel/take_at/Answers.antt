use Rattle.std.proofs.Common.{◌++◌, arith, subst}
use Rattle.std.specs.BinaryHeap.{heap_items}
use Rattle.std.specs.List.Sorted.{IsPermutation}
use Rattle.pfr_deadlines.specs.Wheel.{Bucket}
use Rattle.pfr_deadlines.proofs.BucketLemmas.{moved}
use Rattle.pfr_deadlines.proofs.WheelLemmas.{one_part}
use Rattle.pfr_deadlines.proofs.wheel.take_at.Goals as goal

pub returns-clause-same : goal.returns-clause-same
returns-clause-same c =
    moved (λ (b : Bucket). b.items) c.args.buckets.now.items c.args.index c.index_mut.result.now c.take_before.new.bucket (heap_items c.args.near.now) (heap_items c.take_before.new.near) (omega arith)
    (subst (λ (b : Bucket). IsPermutation (heap_items c.args.near.now ++ b.items) (heap_items c.take_before.new.near ++ c.take_before.new.bucket.items)) c.index_mut.ensures.value c.take_before.ensures.same)

pub returns-clause-fewer : goal.returns-clause-fewer
returns-clause-fewer c = one_part c.args.buckets.now.items c.args.index c.index_mut.result.now c.take_before.new.bucket (omega arith) c.index_mut.ensures.value c.take_before.ensures.fewer
