-- Packets of connections that began before their capture.
use Rattle.std.specs.Prelude.{Bool, true, false, not, ◌==◌, ◌&&◌, ◌||◌, is_some}
use Rattle.std.specs.Int.RustNames.{bit_and}
use Rattle.pfr_headers.specs.declared.packet.View.{View}
use Rattle.pfr_headers.specs.declared.packet.View.TheVariants.{Ipv4, Skip, Short}
use Rattle.pfr_headers.specs.declared.transport.Transport.{Transport}
use Rattle.pfr_headers.specs.declared.transport.Transport.TheVariants.{Tcp}
use Rattle.pfr_packet.specs.Verdicts.{lets_pass}
use Rattle.pfr_packet.specs.declared.outcome.Outcome.{Outcome}
use Rattle.pfr_packet.specs.declared.verdict.Reason.{Reason}
use Rattle.pfr_packet.specs.declared.verdict.Reason.TheVariants as reason

-- A TCP segment requests a connection if it has SYN and not ACK (RFC 9293, section 3.5). Every other is a later one.
abbrev pub is_later : Transport → Bool
is_later (Tcp header) = not (bit_and header.flags.0 18 == 2)
is_later _ = false

-- the reasons of packets that met no state and were judged by a rule
abbrev pub met_none : Reason → Bool
met_none reason.Rule = true
met_none reason.NatPass = true
met_none reason.StateInsert = true
met_none reason.StateLimit = true
met_none _ = false

-- such a packet is blocked, or makes a state
abbrev pub is_for_states : Outcome → Bool
is_for_states outcome = met_none outcome.reason && (not (lets_pass outcome.verdict) || is_some outcome.state)

-- a packet is one of a TCP connection that began before it, and no state was met
unfoldable pub is_midway : View → Outcome → Bool
is_midway (Ipv4 packet) outcome = is_later packet.transport && is_for_states outcome
is_midway Skip outcome = false
is_midway Short outcome = false
