-- Packets whose state is found.
use Rattle.std.specs.Prelude.{Option, Some, None}
use Rattle.pfr_net.specs.declared.direction.Direction.{Direction}
use Rattle.pfr_headers.specs.declared.packet.Packet.{Packet}
use Rattle.pfr_track.specs.declared.outcome.Touch.{Touch}
use Rattle.pfr_track.specs.declared.outcome.Touch.TheVariants as touch
use Rattle.pfr_track.specs.declared.state.State.{State}
use Rattle.pfr_states.specs.declared.change.TableChange.{TableChange}
use Rattle.pfr_states.specs.declared.change.TableChange.TheVariants.{Touched, Removed}
use Rattle.pfr_packet.specs.declared.outcome.Outcome.{Outcome}
use Rattle.pfr_packet.specs.declared.verdict.Reason.{Reason}
use Rattle.pfr_packet.specs.declared.verdict.Reason.TheVariants as reason
use Rattle.pfr_packet.specs.declared.verdict.Verdict.TheVariants.{Pass, Block}
use Rattle.pfr_packet.specs.Keys.{written_by}
use Rattle.pfr_packet.specs.Outcomes.{by_state, without_leave}

-- a packet that passes by a state; its IP options must be allowed, or else nothing changes
abbrev pub passed : Direction → Packet → State → Reason → Option TableChange → Outcome
passed direction packet state why change =
    without_leave packet state.rules.allows_options (record (by_state direction state Pass why) { bytes = written_by direction packet state.wire state.stack; change = change })

-- an ICMP error that embeds a packet of the state's connection: the state stays as it is
abbrev pub embedded : Direction → Packet → State → Outcome
embedded direction packet state = passed direction packet state reason.StateError None

-- a packet with the state's key, by what it does to the state
abbrev pub tracked : Direction → Packet → State → Touch → Outcome
tracked direction packet state (touch.Touched touched) = passed direction packet state reason.State (Some (Touched touched))
tracked direction packet state touch.Mismatch = by_state direction state Block reason.StateMismatch
tracked direction packet state touch.Removed = record (by_state direction state Block reason.StateMismatch) { change = Some (Removed state.number) }
