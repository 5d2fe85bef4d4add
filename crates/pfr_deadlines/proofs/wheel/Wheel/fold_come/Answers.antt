use Rattle.std.proofs.Common.{List, ◌∙◌, ap, arith, subst}
use Rattle.std.specs.List.{FoldsTo}
use Rattle.std.specs.declared.cmp.Reverse.{Reverse}
use Rattle.pfr_deadlines.specs.Waits.{Wait}
use Rattle.pfr_deadlines.specs.Wheel.{Bucket, come_of}
use Rattle.pfr_deadlines.proofs.FoldLemmas.{all_buckets, bucket_more, bucket_skipped}
use Rattle.pfr_deadlines.proofs.wheel.Wheel.fold_come.Goals as goal

pub loop-index-preserved-then-not-may_have_come : goal.loop-index-preserved-then-not-may_have_come
loop-index-preserved-then-not-may_have_come g c = (
  c.loop-index.invariant.0,
  bucket_skipped (λ before wait after. goal.F-post g c.args.step.now before wait.0 after) c.args.clock c.args.start c.loop-index.last c.self.inside.buckets.items c.self.inside.bound c.loop-index.index (omega (arith, c.len-index-end.ensures, c.loop-index-test.true)) c.self.invariant (c.may_have_come.ensures c.if-not-may_have_come.true) c.loop-index.invariant.1,
)

pub loop-index-preserved : goal.loop-index-preserved
loop-index-preserved g c = (
  c.loop-index.invariant.0,
  bucket_more (λ before wait after. goal.F-post g c.args.step.now before wait.0 after) c.args.clock c.args.start c.loop-index.last c.fold_bucket-last.result c.self.inside.buckets.items c.loop-index.index c.index.result.now (omega (arith, c.len-index-end.ensures, c.loop-index-test.true)) c.loop-index.invariant.1
      (subst (λ (items : List (Reverse Wait)). FoldsTo (λ before wait after. goal.F-post g c.args.step.now before wait.0 after) c.loop-index.last (come_of c.args.clock items) c.fold_bucket-last.result) (c.as_slice.ensures.value ∙ ap (λ (b : Bucket). b.items) c.index.ensures) c.fold_bucket-last.ensures),
)

pub returns : goal.returns
returns g c = rw (← c.self.view_is) (all_buckets (λ before wait after. goal.F-post g c.args.step.now before wait.0 after) c.args.clock c.args.start c.loop-index.last c.self.inside.buckets.items c.loop-index.index (omega (arith, c.len-index-end.ensures, c.loop-index-test.false)) c.loop-index.invariant.1)
