-- What a packet does to both ends, by the kinds of the connection and of the packet.
use Rattle.std.proofs.Common.{Bool}
use Rattle.pfr_net.specs.declared.timeout.Timeout.TheVariants.{IcmpError}
use Rattle.pfr_headers.specs.declared.icmp.IcmpMessage.{IcmpMessage}
use Rattle.pfr_headers.specs.declared.icmp.IcmpMessage.TheVariants as message
use Rattle.pfr_headers.specs.declared.tcp.TcpHeader.{TcpHeader}
use Rattle.pfr_headers.specs.declared.transport.Transport.{Transport}
use Rattle.pfr_headers.specs.declared.transport.Transport.TheVariants as transport
use Rattle.pfr_track.specs.declared.datagram.DatagramPeer.{DatagramPeer}
use Rattle.pfr_track.specs.declared.outcome.Track.{Track}
use Rattle.pfr_track.specs.declared.outcome.Track.TheVariants as tracks
use Rattle.pfr_track.specs.declared.peers.Peers.{Peers}
use Rattle.pfr_track.specs.declared.peers.Peers.TheVariants as peers
use Rattle.pfr_track.specs.declared.tcp.TcpPeer.{TcpPeer}
use Rattle.pfr_track.specs.Tracking.{echo_by, exchanged, other_by, tcp_track, track, udp_by}

-- something that is true of both ends and of what becomes of them, if it is true for each kind and if a packet is
-- refused
pub record IsTrueOfEach (is_forth : Bool) (P : Peers → Track → Type 0) : Type 0 where
  pub tcp : (first second : TcpPeer) (header : TcpHeader) → P (peers.Tcp first second) (tcp_track first second header is_forth)
  pub udp : (first second : DatagramPeer) → P (peers.Udp first second) (udp_by (exchanged first second is_forth))
  pub icmp : P peers.Icmp (tracks.Accepted peers.Icmp IcmpError)
  pub other : (first second : DatagramPeer) → P (peers.Other first second) (other_by (exchanged first second is_forth))
  pub refused : (ends : Peers) → P ends tracks.Refused

by_echo : (is_forth : Bool) (P : Peers → Track → Type 0) → IsTrueOfEach is_forth P → (m : IcmpMessage) → P peers.Icmp (echo_by m)
by_echo is_forth P each (message.Echo identifier) = each.icmp
by_echo is_forth P each (message.Error inner) = each.refused peers.Icmp
by_echo is_forth P each message.Other = each.refused peers.Icmp

pub of_track : (is_forth : Bool) (P : Peers → Track → Type 0) → IsTrueOfEach is_forth P → (ends : Peers) (t : Transport) → P ends (track ends t is_forth)
unfolding track
of_track is_forth P each (peers.Tcp first second) transport.Fragment = each.refused (peers.Tcp first second)
of_track is_forth P each (peers.Tcp first second) (transport.Tcp header) = each.tcp first second header
of_track is_forth P each (peers.Tcp first second) (transport.Udp header) = each.refused (peers.Tcp first second)
of_track is_forth P each (peers.Tcp first second) (transport.Icmp header) = each.refused (peers.Tcp first second)
of_track is_forth P each (peers.Tcp first second) transport.Other = each.refused (peers.Tcp first second)
of_track is_forth P each (peers.Udp first second) transport.Fragment = each.refused (peers.Udp first second)
of_track is_forth P each (peers.Udp first second) (transport.Tcp header) = each.refused (peers.Udp first second)
of_track is_forth P each (peers.Udp first second) (transport.Udp header) = each.udp first second
of_track is_forth P each (peers.Udp first second) (transport.Icmp header) = each.refused (peers.Udp first second)
of_track is_forth P each (peers.Udp first second) transport.Other = each.refused (peers.Udp first second)
of_track is_forth P each peers.Icmp transport.Fragment = each.refused peers.Icmp
of_track is_forth P each peers.Icmp (transport.Tcp header) = each.refused peers.Icmp
of_track is_forth P each peers.Icmp (transport.Udp header) = each.refused peers.Icmp
of_track is_forth P each peers.Icmp (transport.Icmp header) = by_echo is_forth P each header.message
of_track is_forth P each peers.Icmp transport.Other = each.refused peers.Icmp
of_track is_forth P each (peers.Other first second) transport.Fragment = each.refused (peers.Other first second)
of_track is_forth P each (peers.Other first second) (transport.Tcp header) = each.refused (peers.Other first second)
of_track is_forth P each (peers.Other first second) (transport.Udp header) = each.refused (peers.Other first second)
of_track is_forth P each (peers.Other first second) (transport.Icmp header) = each.refused (peers.Other first second)
of_track is_forth P each (peers.Other first second) transport.Other = each.other first second
