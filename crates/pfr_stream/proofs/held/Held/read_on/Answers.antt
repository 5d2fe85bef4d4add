use Rattle.std.proofs.Common.{◌∙◌}
use Rattle.pfr_stream.proofs.Takings.{came_behind}
use Rattle.pfr_stream.proofs.held.Held.read_on.Goals as goal

pub returns-clause-came : goal.returns-clause-came
returns-clause-came g c = λ told.
    came_behind _ _ _ _ _ c.in_ok-came.came (c.read_behind.ensures.stay ∙ c.move_to_front.ensures.moved ∙ c.self.view_is) (c.in_ok-came.ensures.came told)
