use Rattle.std.proofs.Common.{◌≡◌, ◌-◌, length, drop}
use Rattle.pfr_places.specs.Places.{first, value_of}
use Rattle.pfr_places.specs.Standing.{held, standing}
use Rattle.pfr_places.proofs.slab.first_value.Given as goal

abbrev pub invariant-loop-at : goal.invariant-loop-at
invariant-loop-at g l = value_of (first (standing (held l.values) (drop l.at l.order))) ≡ value_of (first (standing (held l.values) (drop l.from l.order)))

abbrev pub decreases-loop-at : goal.decreases-loop-at
decreases-loop-at g l = length l.order - l.at
