use Rattle.pfr_deadlines.proofs.WheelLemmas.{all_from}
use Rattle.pfr_deadlines.proofs.wheel.Wheel.bound.Goals as goal

pub returns-clause-from : goal.returns-clause-from
returns-clause-from c = rw (← c.self.view_is) (all_from c.self.inside.bound c.self.inside.buckets.items c.self.invariant)
