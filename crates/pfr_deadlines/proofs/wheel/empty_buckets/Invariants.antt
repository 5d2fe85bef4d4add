use Rattle.std.proofs.Common.{◌≡◌, []}
use Rattle.pfr_deadlines.specs.Wheel.{items_of}
use Rattle.pfr_deadlines.proofs.wheel.empty_buckets.Given as goal

abbrev pub invariant-loop-turn : goal.invariant-loop-turn
invariant-loop-turn l = items_of l.buckets.items ≡ []
