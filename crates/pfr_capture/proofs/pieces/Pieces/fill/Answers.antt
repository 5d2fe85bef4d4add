use Rattle.std.proofs.Common.{◌∙◌, rules}
use Rattle.pfr_capture.proofs.RecordLemmas.{came_twice, extends_twice}
use Rattle.pfr_capture.proofs.pieces.Pieces.fill.Goals as goal

pub returns-in_err-read_on-clause-extends : goal.returns-in_err-read_on-clause-extends
returns-in_err-read_on-clause-extends g c = extends_twice _ _ _ c.loop-self.invariant.extends c.read_on.ensures.extends

pub returns-in_err-read_on-clause-came : goal.returns-in_err-read_on-clause-came
returns-in_err-read_on-clause-came g c =
    λ told.
    came_twice _ _ _ _ _ _ (c.loop-self.invariant.came told) (c.read_on.ensures.came (rw c.loop-self.invariant.told told))

pub returns-then-not-branch-clause-extends : goal.returns-then-not-branch-clause-extends
returns-then-not-branch-clause-extends g c = extends_twice _ _ _ c.loop-self.invariant.extends c.read_on.ensures.extends

pub returns-then-not-branch-clause-came : goal.returns-then-not-branch-clause-came
returns-then-not-branch-clause-came g c =
    λ told.
    came_twice _ _ _ _ _ _ (c.loop-self.invariant.came told) (c.read_on.ensures.came (rw c.loop-self.invariant.told told))

pub loop-self-preserved : goal.loop-self-preserved
loop-self-preserved g c = record {
  told = c.read_on.ensures.told ∙ c.loop-self.invariant.told;
  extends = extends_twice _ _ _ c.loop-self.invariant.extends c.read_on.ensures.extends;
  came = λ told. came_twice _ _ _ _ _ _ (c.loop-self.invariant.came told) (c.read_on.ensures.came (rw c.loop-self.invariant.told told));
  failures = search rules;
}
