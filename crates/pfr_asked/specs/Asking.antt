-- Which rules a packet could have asked, by what it came to. A rule that no packet of a run could have asked changes
-- nothing of what the run says, and what the run says is nothing about the rule.
use Rattle.std.specs.Prelude.{ℕ, ◌&&◌, Bool, true, false, Option, Some, None, is_none}
use Rattle.pfr_net.specs.declared.direction.Direction.{Direction}
use Rattle.pfr_net.specs.declared.interface.IfName.{IfName}
use Rattle.pfr_ruleset.specs.declared.filter_rules.RuleLists.{RuleLists}
use Rattle.pfr_ruleset.specs.declared.flat.FlatAnchor.{FlatAnchor}
use Rattle.pfr_ruleset.specs.declared.flat.FlatRule.{FlatRule}
use Rattle.pfr_ruleset.specs.declared.flat.PacketMatch.{PacketMatch}
use Rattle.pfr_headers.specs.declared.packet.View.{View}
use Rattle.pfr_headers.specs.declared.packet.View.TheVariants.{Ipv4, Skip, Short}
use Rattle.pfr_criteria.specs.Packets.{direction_holds, interface_holds}
use Rattle.pfr_criteria.specs.Transports.{opens_connection}
use Rattle.pfr_rules.specs.Filter.{hits}
use Rattle.pfr_track.specs.declared.state.StateNumber.{StateNumber}
use Rattle.pfr_packet.specs.declared.outcome.Outcome.{Outcome}
use Rattle.pfr_packet.specs.declared.verdict.Reason.{Reason}
use Rattle.pfr_packet.specs.declared.verdict.Reason.TheVariants as reason

-- ---- a packet

-- The filter was asked about the packet. If IP options block a packet of a state, that state is named, and the filter
-- wasn't asked.
abbrev pub came_by : Reason → Option StateNumber → Bool
came_by reason.Rule state = true
came_by reason.Default state = true
came_by reason.StateInsert state = true
came_by reason.StateLimit state = true
came_by reason.IpOption state = is_none state
came_by reason.NotIp state = false
came_by reason.SkipOn state = false
came_by reason.Short state = false
came_by reason.State state = false
came_by reason.StateError state = false
came_by reason.StateMismatch state = false
came_by reason.NatExhausted state = false
came_by reason.NatPass state = false

abbrev pub came : Outcome → Bool
came outcome = came_by outcome.reason outcome.state

-- Translation rules were asked about the packet, or would have been but for where it was captured: it belongs to a
-- connection, and has no state yet.
abbrev pub opens_by : Reason → Option StateNumber → Bool
opens_by reason.Rule state = true
opens_by reason.Default state = true
opens_by reason.StateInsert state = true
opens_by reason.StateLimit state = true
opens_by reason.NatExhausted state = true
opens_by reason.NatPass state = true
opens_by reason.IpOption state = is_none state
opens_by reason.NotIp state = false
opens_by reason.SkipOn state = false
opens_by reason.Short state = false
opens_by reason.State state = false
opens_by reason.StateError state = false
opens_by reason.StateMismatch state = false

abbrev pub opens : View → Outcome → Bool
opens Skip outcome = false
opens Short outcome = false
opens (Ipv4 packet) outcome = opens_connection packet.transport && opens_by outcome.reason outcome.state

-- ---- a rule

-- packets that go this way on the interface of a name are allowed by a direction and an interface that are written
abbrev pub allows : Option Direction → PacketMatch → IfName → Direction → Bool
allows written asked name direction = direction_holds written direction && interface_holds asked.interface name

abbrev pub rule_allows : IfName → Direction → FlatRule → Bool
rule_allows name direction rule = allows rule.direction rule.packet name direction

abbrev pub anchor_allows : IfName → Direction → FlatAnchor → Bool
anchor_allows name direction anchor = allows anchor.direction anchor.packet name direction

-- the filter rule at a place allows them, and so do all anchors round it
abbrev pub allowed : RuleLists → ℕ → IfName → Direction → Bool
allowed lists place name direction = hits (anchor_allows name direction) (λ number. rule_allows name direction) lists place

abbrev pub allowed_way : RuleLists → ℕ → IfName → Option Direction → Bool
allowed_way lists place name None = false
allowed_way lists place name (Some direction) = allowed lists place name direction

-- a packet on the interface of a name could have asked the filter rule at a place
abbrev pub could_ask : RuleLists → ℕ → IfName → Outcome → Bool
could_ask lists place name outcome = came outcome && allowed_way lists place name outcome.direction
