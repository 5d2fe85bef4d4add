-- A packet behind a translation: another address stands at one of its ends, and another port or identifier if it has
-- one. In an ICMP error the packet that it embeds stays.
use Rattle.pfr_net.specs.declared.endpoint.Endpoint.{Endpoint}
use Rattle.pfr_net.specs.declared.port.Port.{Port}
use Rattle.pfr_headers.specs.declared.change.End.{End}
use Rattle.pfr_headers.specs.declared.change.End.TheVariants.{Source, Destination}
use Rattle.pfr_headers.specs.declared.icmp.IcmpMessage.{IcmpMessage}
use Rattle.pfr_headers.specs.declared.icmp.IcmpMessage.TheVariants as message
use Rattle.pfr_headers.specs.declared.packet.Packet.{Packet}
use Rattle.pfr_headers.specs.declared.tcp.TcpHeader.{TcpHeader}
use Rattle.pfr_headers.specs.declared.transport.Transport.{Transport}
use Rattle.pfr_headers.specs.declared.transport.Transport.TheVariants.{Fragment, Tcp, Udp, Icmp, Other}
use Rattle.pfr_headers.specs.declared.udp.UdpHeader.{UdpHeader}

abbrev pub tcp_with : End → Port → TcpHeader → TcpHeader
tcp_with Source port header = record header { source = port }
tcp_with Destination port header = record header { destination = port }

abbrev pub udp_with : End → Port → UdpHeader → UdpHeader
udp_with Source port header = record header { source = port }
udp_with Destination port header = record header { destination = port }

-- an echo has its identifier in the place of the port
abbrev pub message_with : Port → IcmpMessage → IcmpMessage
message_with port (message.Echo identifier) = message.Echo port.0
message_with port (message.Error inner) = message.Error inner
message_with port message.Other = message.Other

abbrev pub transport_with : End → Port → Transport → Transport
transport_with end port Fragment = Fragment
transport_with end port (Tcp header) = Tcp (tcp_with end port header)
transport_with end port (Udp header) = Udp (udp_with end port header)
transport_with end port (Icmp header) = Icmp (record header { message = message_with port header.message })
transport_with end port Other = Other

abbrev pub translated : End → Endpoint → Packet → Packet
translated Source to packet = record packet { source = to.address; transport = transport_with Source to.port packet.transport }
translated Destination to packet = record packet { destination = to.address; transport = transport_with Destination to.port packet.transport }
