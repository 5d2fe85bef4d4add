use Rattle.std.proofs.Common.{◌∙◌, sym}
use Rattle.pfr_deadlines.proofs.WheelLemmas.{ok_holds, part_right, taken_right}
use Rattle.pfr_deadlines.proofs.wheel.Wheel.advance.Goals as goal

pub invariant_of-self : goal.invariant_of-self
invariant_of-self c = taken_right c.self.inside.bound _ c.take_seconds.new.buckets.items c.self.inside.buckets.items c.self.invariant c.take_seconds.ensures.fewer (ok_holds c.take_seconds.result _ c.take_seconds.ensures.done (sym c.is_ok.ensures.value ∙ c.if-is_ok.true))

pub invariant_of-self-else-is_ok : goal.invariant_of-self-else-is_ok
invariant_of-self-else-is_ok c = part_right c.self.inside.bound c.take_seconds.new.buckets.items c.self.inside.buckets.items c.self.invariant c.take_seconds.ensures.fewer
