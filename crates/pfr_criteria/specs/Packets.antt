-- Whether a packet meets all criteria of a rule or an anchor (pf.conf(5), "Parameters").
use Rattle.std.specs.Prelude.{ℕ, ◌==◌, ◌&&◌, Bool, true, false, not, if◌then◌else◌, List, Option, Some, None}
use Rattle.std.specs.Str.{bytes_eq}
use Rattle.pfr_net.specs.declared.direction.Direction.{Direction}
use Rattle.pfr_net.specs.declared.direction.Direction.TheVariants as d
use Rattle.pfr_net.specs.declared.protocol.Protocol.{Protocol}
use Rattle.pfr_ruleset.specs.declared.table.Entry.{Entry}
use Rattle.pfr_net.specs.declared.interface.IfName.{IfName}
use Rattle.pfr_ruleset.specs.declared.interface.InterfaceCriterion.{InterfaceCriterion}
use Rattle.pfr_ruleset.specs.declared.flat.PacketMatch.{PacketMatch}
use Rattle.pfr_ruleset.specs.declared.flat.FlatRule.{FlatRule}
use Rattle.pfr_ruleset.specs.declared.flat.FlatAnchor.{FlatAnchor}
use Rattle.pfr_headers.specs.declared.packet.Packet.{Packet}
use Rattle.pfr_criteria.specs.Hosts.{host_holds}
use Rattle.pfr_criteria.specs.Transports.{port_asked, source_port, destination_port, flags_hold, icmp_holds}

abbrev pub direction_is : Direction → Direction → Bool
direction_is d.In d.In = true
direction_is d.Out d.Out = true
direction_is d.In d.Out = false
direction_is d.Out d.In = false

abbrev pub direction_holds : Option Direction → Direction → Bool
direction_holds None direction = true
direction_holds (Some written) direction = direction_is written direction

abbrev pub is_named : IfName → IfName → Bool
is_named name other = bytes_eq name.bytes other.bytes

-- the interface's name, or behind a `!` another
abbrev pub interface_holds : Option InterfaceCriterion → IfName → Bool
interface_holds None name = true
interface_holds (Some criterion) name = if criterion.is_negated then not (is_named criterion.name name) else is_named criterion.name name

abbrev pub protocol_holds : Option Protocol → ℕ → Bool
protocol_holds None number = true
protocol_holds (Some written) number = written.0 == number

-- all criteria that a packet on the interface `name` must meet, if the tables have these entries
unfoldable pub match_holds : PacketMatch → IfName → List (List Entry) → Packet → Bool
match_holds m name tables packet =
    protocol_holds m.protocol packet.protocol.0
    && (interface_holds m.interface name
    && (port_asked m.destination_port (destination_port packet.transport)
    && (port_asked m.source_port (source_port packet.transport)
    && (icmp_holds m.icmp packet.transport
    && (host_holds tables m.destination packet.destination.0
    && host_holds tables m.source packet.source.0)))))

-- all that a filter rule writes, and its default flags
unfoldable pub rule_holds : FlatRule → IfName → List (List Entry) → Packet → Direction → Bool
rule_holds rule name tables packet direction =
    direction_holds rule.direction direction && (flags_hold rule.flags packet.transport && match_holds rule.packet name tables packet)

-- all that an anchor writes
unfoldable pub anchor_holds : FlatAnchor → IfName → List (List Entry) → Packet → Direction → Bool
anchor_holds anchor name tables packet direction =
    direction_holds anchor.direction direction && match_holds anchor.packet name tables packet
