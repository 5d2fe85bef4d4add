use Rattle.pfr_deadlines.proofs.WheelLemmas.{none_right}
use Rattle.pfr_deadlines.proofs.wheel.Wheel.reserve.Goals as goal

pub invariant_of-self : goal.invariant_of-self
invariant_of-self c = none_right c.self.inside.bound c.in_ok-self-inside.field-0.items c.in_ok-self-inside.ensures
