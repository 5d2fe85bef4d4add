use Rattle.std.proofs.Common.{◌-◌}
use Rattle.pfr_sync.proofs.PlaceLemmas.{Halves}
use Rattle.pfr_sync.proofs.edit.place_of.Given as goal

abbrev pub invariant-loop-low : goal.invariant-loop-low
invariant-loop-low l = Halves l.entries l.number.0 l.low l.high

abbrev pub decreases-loop-low : goal.decreases-loop-low
decreases-loop-low l = l.high - l.low
