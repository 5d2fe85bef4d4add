use Rattle.std.proofs.Common.{refl}
use Rattle.pfr_deadlines.proofs.WheelLemmas.{more_right}
use Rattle.pfr_deadlines.proofs.wheel.Wheel.put.Goals as goal

pub invariant_of-self : goal.invariant_of-self
invariant_of-self c = more_right c.self.inside.bound _ (record { 0 = c.args.wait }) c.put_at.new.buckets.items c.self.inside.buckets.items c.self.invariant c.put_at.ensures.more c.if-deadline-self.false refl
