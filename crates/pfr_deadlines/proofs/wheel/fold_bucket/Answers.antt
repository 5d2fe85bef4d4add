use Rattle.std.proofs.Common.{◌∙◌, sym}
use Rattle.pfr_deadlines.specs.Wheel.{has_come}
use Rattle.pfr_deadlines.proofs.FoldLemmas.{all_of, one_more}
use Rattle.pfr_deadlines.proofs.wheel.fold_bucket.Goals as goal

pub loop-wait-preserved : goal.loop-wait-preserved
loop-wait-preserved g c = (
  c.loop-wait.invariant.0,
  one_more (λ before wait after. goal.F-post g c.args.step.now before wait.0 after) (has_come c.args.clock) c.args.start c.loop-wait.last c.step-last.result c.args.bucket.now c.loop-wait.wait-index _ c.loop-wait-test.true (sym c.has_come.ensures ∙ c.if-not-has_come.false) c.loop-wait.invariant.1 c.step-last.ensures,
)

pub returns : goal.returns
returns g c = all_of (λ before wait after. goal.F-post g c.args.step.now before wait.0 after) (has_come c.args.clock) c.args.start c.loop-wait.last c.args.bucket.now c.loop-wait.wait-index c.loop-wait-test.false c.loop-wait.invariant.1
