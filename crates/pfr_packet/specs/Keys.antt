-- The keys by which packets are looked up, and what is written into packets whose connection is translated.
use Rattle.std.specs.Prelude.{if◌then◌else◌, Option, Some, None}
use Rattle.pfr_net.specs.declared.address.Ipv4Address.{Ipv4Address}
use Rattle.pfr_net.specs.declared.direction.Direction.{Direction}
use Rattle.pfr_net.specs.declared.direction.Direction.TheVariants.{In, Out}
use Rattle.pfr_net.specs.declared.protocol.Protocol.{Protocol}
use Rattle.pfr_net.specs.declared.port.Port.{Port}
use Rattle.pfr_net.specs.declared.endpoint.Endpoint.{Endpoint}
use Rattle.pfr_headers.specs.declared.change.Change.{Change}
use Rattle.pfr_headers.specs.declared.change.End.{End}
use Rattle.pfr_headers.specs.declared.change.End.TheVariants.{Source, Destination}
use Rattle.pfr_headers.specs.declared.icmp.IcmpMessage.{IcmpMessage}
use Rattle.pfr_headers.specs.declared.icmp.IcmpMessage.TheVariants as message
use Rattle.pfr_headers.specs.declared.icmp.Inner.{Inner}
use Rattle.pfr_headers.specs.declared.packet.Packet.{Packet}
use Rattle.pfr_headers.specs.declared.transport.Transport.{Transport}
use Rattle.pfr_headers.specs.declared.transport.Transport.TheVariants as transport
use Rattle.pfr_track.specs.declared.key.Key.{Key}
use Rattle.pfr_states.specs.declared.change.Side.{Side}
use Rattle.pfr_states.specs.declared.change.Side.TheVariants.{Wire, Stack}
use Rattle.pfr_states.specs.States.{is_same_end}
use Rattle.pfr_packet.specs.declared.keys.Subject.{Subject}
use Rattle.pfr_packet.specs.declared.keys.Subject.TheVariants.{Alone, Embedded, Connection}

-- packets that come in are looked up on the wire side, packets that go out on the stack side
abbrev pub side_of : Direction → Side
side_of In = Wire
side_of Out = Stack

-- the source of a packet that comes in is outside, the source of a packet that goes out is inside
abbrev pub key_of : Direction → Protocol → Endpoint → Endpoint → Key
key_of In protocol source destination = record { protocol = protocol; outside = source; inside = destination }
key_of Out protocol source destination = record { protocol = protocol; outside = destination; inside = source }

abbrev pub opposite : Direction → Direction
opposite In = Out
opposite Out = In

abbrev pub endpoint : Ipv4Address → Port → Endpoint
endpoint address port = record { address = address; port = port }

abbrev pub own_key : Direction → Packet → Port → Port → Key
own_key direction packet source destination =
    key_of direction packet.protocol (endpoint packet.source source) (endpoint packet.destination destination)

-- the packet that an error embeds went the other way
abbrev pub embedded_key : Direction → Inner → Key
embedded_key direction inner =
    key_of (opposite direction) inner.protocol (endpoint inner.source inner.source_port) (endpoint inner.destination inner.destination_port)

-- an echo has its identifier as both ports
abbrev pub message_subject : Direction → Packet → IcmpMessage → Subject
message_subject direction packet (message.Echo identifier) = Connection (own_key direction packet (record { 0 = identifier }) (record { 0 = identifier }))
message_subject direction packet (message.Error inner) = Embedded (embedded_key direction inner)
message_subject direction packet message.Other = Alone

abbrev pub subject_by : Direction → Packet → Transport → Subject
subject_by direction packet transport.Fragment = Alone
subject_by direction packet (transport.Tcp header) = Connection (own_key direction packet header.source header.destination)
subject_by direction packet (transport.Udp header) = Connection (own_key direction packet header.source header.destination)
subject_by direction packet (transport.Icmp header) = message_subject direction packet header.message
subject_by direction packet transport.Other = Connection (own_key direction packet (record { 0 = 0 }) (record { 0 = 0 }))

abbrev pub subject_of : Direction → Packet → Subject
subject_of direction packet = subject_by direction packet packet.transport

-- ---- translated packets

abbrev pub end_of : Direction → End
end_of In = Destination
end_of Out = Source

-- what stands at the translated end: behind the firewall the end inside for a packet that comes in, on the wire for one
-- that goes out
abbrev pub translated_end : Direction → Key → Key → Endpoint
translated_end In wire stack = stack.inside
translated_end Out wire stack = wire.inside

abbrev pub written_by : Direction → Packet → Key → Key → Option Change
written_by direction packet wire stack =
    if is_same_end wire.inside stack.inside then None
    else Some (record { packet = packet; end = end_of direction; to = translated_end direction wire stack })
