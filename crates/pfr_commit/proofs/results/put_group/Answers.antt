use Rattle.pfr_commit.proofs.ResultLemmas.{puts_all, puts_next}
use Rattle.std.proofs.Common.{◌∙◌}
use Rattle.pfr_commit.proofs.results.put_group.Goals as goal

pub loop-index-preserved : goal.loop-index-preserved
loop-index-preserved c = (
  c.put_result.ensures.length ∙ c.loop-index.invariant.0,
  λ before are. puts_next before c.args.group.now c.args.first c.loop-index.index c.index-group-index.result c.loop-index.places.items c.put_result.new.places.items c.loop-index-test.true c.index-group-index.is
      c.put_result.ensures.length
      (c.loop-index.invariant.1 before are) c.put_result.ensures.placed,
)

pub returns-clause-placed : goal.returns-clause-placed
returns-clause-placed c = λ before are. puts_all before c.args.group.now c.args.first c.loop-index.index c.loop-index.places.items c.loop-index-test.false (c.loop-index.invariant.1 before are)
