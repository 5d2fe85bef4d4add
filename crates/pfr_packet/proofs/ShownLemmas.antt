-- Packets as a capture shows them.
use Rattle.std.proofs.Common.{Bool, true, false, cond, None}
use Rattle.pfr_net.specs.declared.direction.Direction.{Direction}
use Rattle.pfr_headers.specs.declared.tap.Tap.{Tap}
use Rattle.pfr_packet.specs.declared.outcome.Outcome.{Outcome}
use Rattle.pfr_packet.specs.Taps.{as_shown, is_translated}

-- what holds of an outcome, and of it with nothing written, holds of it as it is shown
pub shown_either : (P : Outcome → Type 0) (tap : Tap) (direction : Direction) (outcome : Outcome) → P outcome → P (record outcome { bytes = None }) → P (as_shown tap direction outcome)
shown_either P tap direction outcome one other = by_test (is_translated tap direction)
  where
    by_test : (test : Bool) → P (cond test (record outcome { bytes = None }) outcome)
    by_test true = other
    by_test false = one
