-- Packets as a capture shows them. A firewall looks up and translates a packet that goes out before it is on the wire.
-- Captured there it is behind its translation: it has the ends of its state's wire key, and it is written already.
use Rattle.std.specs.Prelude.{Bool, true, false, if◌then◌else◌, None}
use Rattle.pfr_net.specs.declared.direction.Direction.{Direction}
use Rattle.pfr_net.specs.declared.direction.Direction.TheVariants.{Out}
use Rattle.pfr_headers.specs.declared.tap.Tap.{Tap}
use Rattle.pfr_headers.specs.declared.tap.Tap.TheVariants as tap
use Rattle.pfr_states.specs.declared.change.Side.{Side}
use Rattle.pfr_states.specs.declared.change.Side.TheVariants.{Wire}
use Rattle.pfr_packet.specs.declared.outcome.Outcome.{Outcome}
use Rattle.pfr_packet.specs.Keys.{side_of}

-- packets of a direction are shown behind their translation
abbrev pub is_translated : Tap → Direction → Bool
is_translated tap.Wire Out = true
is_translated _ _ = false

-- the side on which they are looked up
abbrev pub looked_up_on : Tap → Direction → Side
looked_up_on tap direction = if is_translated tap direction then Wire else side_of direction

-- the outcome, as it is shown, of a packet whose state is found: nothing is written into it if it is written already
abbrev pub as_shown : Tap → Direction → Outcome → Outcome
as_shown tap direction outcome = if is_translated tap direction then record outcome { bytes = None } else outcome
