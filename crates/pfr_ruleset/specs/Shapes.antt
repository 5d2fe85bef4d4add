-- What rules pin to one value, and the keys under which they are found by it.
use Rattle.std.specs.Prelude.{ℕ, suc, ◌+◌, ◌*◌, ◌/◌, ◌%◌, ◌^◌, ◌&&◌, nat_le, Bool, true, false, if◌then◌else◌, List, [], ◌∷◌, Option, Some, None}
use Rattle.std.specs.List.{slice_index_or}
use Rattle.pfr_net.specs.declared.network.Net.{Net}
use Rattle.pfr_net.specs.declared.protocol.Protocol.{Protocol}
use Rattle.pfr_net.specs.Networks.{prefix}
use Rattle.pfr_ruleset.specs.declared.criterion.Asked.{Asked}
use Rattle.pfr_ruleset.specs.declared.flat.PacketMatch.{PacketMatch}
use Rattle.pfr_ruleset.specs.declared.hosts.HostCriterion.{HostCriterion}
use Rattle.pfr_ruleset.specs.declared.hosts.HostSet.{HostSet}
use Rattle.pfr_ruleset.specs.declared.hosts.HostSet.TheVariants as set
use Rattle.pfr_net.specs.declared.icmp_match.IcmpMatch.{IcmpMatch}
use Rattle.pfr_net.specs.declared.port_match.PortMatch.{PortMatch}
use Rattle.pfr_net.specs.declared.port_match.PortMatch.TheVariants as port
use Rattle.pfr_net.specs.declared.port_match.Comparison.TheVariants as comparison
use Rattle.pfr_ruleset.specs.declared.shape.Pins.{Pins}
use Rattle.pfr_ruleset.specs.declared.shape.Shape.{Shape}

-- ---- what a rule pins

abbrev pub pinned_protocol : Option Protocol → Option ℕ
pinned_protocol None = None
pinned_protocol (Some protocol) = Some protocol.0

abbrev pub pinned_icmp : Option IcmpMatch → Option ℕ
pinned_icmp None = None
pinned_icmp (Some icmp) = Some icmp.kind

-- a port that is written as a single number
abbrev pub pinned_port : Option PortMatch → Option ℕ
pinned_port None = None
pinned_port (Some (port.Compare comparison.Equal number)) = Some number
pinned_port (Some other) = None

abbrev pub network_in : HostSet → Option Net
network_in (set.Network network) = Some network
network_in other = None

-- a network without a `!`
abbrev pub pinned_network : HostCriterion → Option Net
pinned_network criterion = if criterion.is_negated then None else network_in criterion.hosts

-- ---- shapes

-- whether a value is pinned, if a shape pins it
abbrev pub is_pinned : Bool → Option ℕ → Bool
is_pinned false value = true
is_pinned true None = false
is_pinned true (Some value) = true

-- whether the first bits of an address are pinned, as many as the shape pins
abbrev pub has_bits : Option ℕ → Option Net → Bool
has_bits None network = true
has_bits (Some bits) None = false
has_bits (Some bits) (Some network) = nat_le bits network.bits

-- a rule pins all that a shape pins
unfoldable pub covers : Shape → PacketMatch → Bool
covers shape asked =
    is_pinned shape.protocol (pinned_protocol asked.protocol)
    && (is_pinned shape.icmp (pinned_icmp asked.icmp)
    && (has_bits shape.source (pinned_network asked.source)
    && (is_pinned shape.source_port (pinned_port asked.source_port)
    && (has_bits shape.destination (pinned_network asked.destination)
    && is_pinned shape.destination_port (pinned_port asked.destination_port)))))

-- a value that a shape pins, and else 0
abbrev pub value_in : Bool → Option ℕ → ℕ
value_in true (Some value) = value
value_in true None = 0
value_in false value = 0

abbrev pub bits_in : Option ℕ → ℕ → ℕ
bits_in None address = 0
bits_in (Some bits) address = prefix bits address

abbrev pub address_in : Option ℕ → Option Net → ℕ
address_in bits None = 0
address_in bits (Some network) = bits_in bits network.address.0

-- what a rule of a shape pins
unfoldable pub pins_of : Shape → PacketMatch → Pins
pins_of shape asked = record {
  protocol = value_in shape.protocol (pinned_protocol asked.protocol);
  icmp = value_in shape.icmp (pinned_icmp asked.icmp);
  source = address_in shape.source (pinned_network asked.source);
  source_port = value_in shape.source_port (pinned_port asked.source_port);
  destination = address_in shape.destination (pinned_network asked.destination);
  destination_port = value_in shape.destination_port (pinned_port asked.destination_port);
}

-- the shape that pins nothing
abbrev pub no_shape : Shape
no_shape = record { protocol = false; icmp = false; source = None; source_port = false; destination = None; destination_port = false }

-- the place of the first shape that a rule covers, or the number of shapes if it covers none
unfoldable pub shape_place : List Shape → PacketMatch → ℕ
shape_place [] asked = 0
shape_place (shape ∷ shapes) asked = if covers shape asked then 0 else suc (shape_place shapes asked)

-- the shape at a place; behind the last one the shape that pins nothing
abbrev pub shape_at : List Shape → ℕ → Shape
shape_at shapes place = slice_index_or shapes place no_shape

-- ---- keys

abbrev pub mixed : ℕ → ℕ → ℕ
mixed sum value = (sum + value) % 2 ^ 64 * 11400714819323198485 % 2 ^ 64

-- a number of 32 bits scaled to one below `size`
abbrev pub scaled : ℕ → ℕ → ℕ
scaled number size = number * size / 2 ^ 32

-- the sum of pins of the shape at a place, of which the upper half is used
unfoldable pub mixed_pins : ℕ → Pins → ℕ
mixed_pins place pins =
    mixed (mixed (mixed (mixed (mixed (mixed (mixed 0 place) pins.protocol) pins.icmp) pins.source) pins.source_port) pins.destination) pins.destination_port

-- the key of pins of the shape at a place, below a bound
unfoldable pub key : ℕ → Pins → ℕ → ℕ
key place pins size = scaled (mixed_pins place pins / 2 ^ 32) size

-- the key of a rule
unfoldable pub key_of_rule : List Shape → ℕ → Asked → ℕ
key_of_rule shapes size asked =
    let place = shape_place shapes asked.packet in
    key place (pins_of (shape_at shapes place) asked.packet) size
