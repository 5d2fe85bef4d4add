-- What a packet has of the parts that a shape pins.
use Rattle.std.specs.Prelude.{ℕ, Option, Some, None}
use Rattle.pfr_ruleset.specs.Shapes.{value_in, bits_in}
use Rattle.pfr_ruleset.specs.declared.shape.Pins.{Pins}
use Rattle.pfr_ruleset.specs.declared.shape.Shape.{Shape}
use Rattle.pfr_headers.specs.declared.packet.Packet.{Packet}
use Rattle.pfr_headers.specs.declared.transport.Transport.{Transport}
use Rattle.pfr_headers.specs.declared.transport.Transport.TheVariants as t
use Rattle.pfr_criteria.specs.Transports.{source_port, destination_port}

-- the type of an ICMP message
abbrev pub icmp_kind : Transport → Option ℕ
icmp_kind (t.Icmp header) = Some header.kind.0
icmp_kind rest = None

-- the packet's value of each part that the shape pins; 0 if it has none
unfoldable pub pins_in : Shape → Packet → Pins
pins_in shape packet = record {
  protocol = value_in shape.protocol (Some packet.protocol.0);
  icmp = value_in shape.icmp (icmp_kind packet.transport);
  source = bits_in shape.source packet.source.0;
  source_port = value_in shape.source_port (source_port packet.transport);
  destination = bits_in shape.destination packet.destination.0;
  destination_port = value_in shape.destination_port (destination_port packet.transport);
}
