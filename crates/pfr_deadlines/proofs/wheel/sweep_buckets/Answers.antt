use Rattle.std.proofs.Common.{arith}
use Rattle.std.specs.declared.cmp.Reverse.{Reverse}
use Rattle.pfr_deadlines.specs.Waits.{Wait}
use Rattle.pfr_deadlines.specs.Wheel.{Bucket}
use Rattle.pfr_deadlines.proofs.BucketLemmas.{filtered_all}
use Rattle.pfr_deadlines.proofs.wheel.sweep_buckets.Goals as goal

pub returns-clause-items : goal.returns-clause-items
returns-clause-items g c = λ test decides.
    filtered_all (λ (b : Bucket). b.items) (λ (wait : Reverse Wait). test wait.0) c.args.buckets.now.items c.loop-index.buckets.items c.loop-index.invariant.even (λ i d within. c.loop-index.invariant.swept test decides i d (omega arith))
