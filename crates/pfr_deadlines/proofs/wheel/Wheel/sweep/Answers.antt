use Rattle.pfr_deadlines.proofs.WheelLemmas.{part_right}
use Rattle.pfr_deadlines.proofs.wheel.Wheel.sweep.Goals as goal

pub invariant_of-self : goal.invariant_of-self
invariant_of-self g c = part_right c.self.inside.bound c.sweep_buckets.new.buckets.items c.self.inside.buckets.items c.self.invariant c.sweep_buckets.ensures.fewer
