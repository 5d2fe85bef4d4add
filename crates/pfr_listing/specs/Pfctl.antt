-- States as pfctl(8) prints them with `-s states`.
use Rattle.std.specs.Prelude.{ℕ, ◌==◌, ◌&&◌, Bool, if◌then◌else◌, List, [], ◌∷◌, ◌++◌, Option, Some, None, codes}
use Rattle.std.specs.Fmt.{decimal}
use Rattle.pfr_net.specs.declared.direction.Direction.{Direction}
use Rattle.pfr_net.specs.declared.direction.Direction.TheVariants.{In, Out}
use Rattle.pfr_net.specs.declared.endpoint.Endpoint.{Endpoint}
use Rattle.pfr_texts.specs.Texts.{address_text}
use Rattle.pfr_track.specs.declared.datagram.DatagramPeer.{DatagramPeer}
use Rattle.pfr_track.specs.declared.datagram.DatagramPeer.TheVariants.{Silent, Single, Multiple}
use Rattle.pfr_track.specs.declared.key.Key.{Key}
use Rattle.pfr_track.specs.declared.peers.Peers.{Peers}
use Rattle.pfr_track.specs.declared.peers.Peers.TheVariants as peers
use Rattle.pfr_track.specs.declared.state.State.{State}
use Rattle.pfr_track.specs.declared.tcp.TcpPeerState.{TcpPeerState}
use Rattle.pfr_track.specs.declared.tcp.TcpPeerState.TheVariants.{Closed, Listen, SynSent, SynReceived, Established, CloseWait, FinWait1, Closing, LastAck, FinWait2, TimeWait}
use Rattle.pfr_listing.specs.declared.line.Bound.{Bound}
use Rattle.pfr_listing.specs.declared.line.Bound.TheVariants.{Unsaid, All, To}
use Rattle.pfr_listing.specs.declared.line.Listed.{Listed}

-- TCP's states (RFC 9293, section 3.3.2) by the names that pf has for them
abbrev pub tcp_name : TcpPeerState → List ℕ
tcp_name Closed = codes "CLOSED"
tcp_name Listen = codes "LISTEN"
tcp_name SynSent = codes "SYN_SENT"
tcp_name SynReceived = codes "SYN_RCVD"
tcp_name Established = codes "ESTABLISHED"
tcp_name CloseWait = codes "CLOSE_WAIT"
tcp_name FinWait1 = codes "FIN_WAIT_1"
tcp_name Closing = codes "CLOSING"
tcp_name LastAck = codes "LAST_ACK"
tcp_name FinWait2 = codes "FIN_WAIT_2"
tcp_name TimeWait = codes "TIME_WAIT"

abbrev pub datagram_name : DatagramPeer → List ℕ
datagram_name Silent = codes "NO_TRAFFIC"
datagram_name Single = codes "SINGLE"
datagram_name Multiple = codes "MULTIPLE"

-- the end that made the state, and the other one; nothing is kept of those of ICMP echoes
abbrev pub end_names : Peers → List ℕ × List ℕ
end_names (peers.Tcp maker other) = (tcp_name maker.state, tcp_name other.state)
end_names (peers.Udp maker other) = (datagram_name maker, datagram_name other)
end_names peers.Icmp = (codes "0", codes "0")
end_names (peers.Other maker other) = (datagram_name maker, datagram_name other)

-- the protocols that are shown by name, as FreeBSD's protocols(5) has them; all others by their numbers
abbrev pub protocol_name : ℕ → Option (List ℕ)
protocol_name number =
    if number == 1 then Some (codes "icmp") else
    if number == 2 then Some (codes "igmp") else
    if number == 6 then Some (codes "tcp") else
    if number == 17 then Some (codes "udp") else
    if number == 47 then Some (codes "gre") else
    if number == 50 then Some (codes "esp") else
    if number == 51 then Some (codes "ah") else
    if number == 89 then Some (codes "ospf") else
    if number == 103 then Some (codes "pim") else
    if number == 112 then Some (codes "carp") else
    if number == 132 then Some (codes "sctp") else
    None

abbrev pub named_or : ℕ → Option (List ℕ) → List ℕ
named_or number None = decimal number
named_or number (Some name) = name

-- an end of a connection, without its port if that is 0
abbrev pub host : Endpoint → List ℕ
host end = address_text end.address ++ (if end.port.0 == 0 then [] else codes ":" ++ decimal end.port.0)

abbrev pub are_same : (one other : Endpoint) → Bool
are_same one other = one.address.0 == other.address.0 && one.port.0 == other.port.0

-- an end on the side towards which the arrow points from it, and in brackets on the other side if it is translated
abbrev pub both_sides : (here there : Endpoint) → List ℕ
both_sides here there = host here ++ (if are_same here there then [] else codes " (" ++ (host there ++ codes ")"))

abbrev pub ends : (here there : Key) → (arrow : List ℕ) → List ℕ
ends here there arrow = both_sides here.inside there.inside ++ (arrow ++ both_sides here.outside there.outside)

-- An ICMP echo has one identifier: the end towards which its first packet went is shown with the identifier of this
-- side.
abbrev pub there_for : Direction → (here there : Key) → Key
there_for Out here there = if there.protocol.0 == 1 then record there { outside = record there.outside { port = here.outside.port } } else there
there_for In here there = if there.protocol.0 == 1 then record there { inside = record there.inside { port = here.inside.port } } else there

-- The end inside stands first. A state that a packet made on its way out is shown as it is on the wire, with `->`, and
-- the maker's end first; another one as it is behind the firewall, with `<-`.
abbrev pub ends_by : Direction → State → List ℕ
ends_by Out state = ends state.wire (there_for Out state.wire state.stack) (codes " -> ")
ends_by In state = ends state.stack (there_for In state.stack state.wire) (codes " <- ")

abbrev pub names_by : Direction → Peers → List ℕ
names_by Out peers = (end_names peers).0 ++ (codes ":" ++ (end_names peers).1)
names_by In peers = (end_names peers).1 ++ (codes ":" ++ (end_names peers).0)

-- `all` if no interface is named to which it is bound
abbrev pub bound_to : Bound → List ℕ
bound_to Unsaid = codes "all"
bound_to All = codes "all"
bound_to (To name) = name

abbrev pub front : Listed → List ℕ
front listed = bound_to listed.bound ++ (codes " " ++ (named_or listed.state.wire.protocol.0 (protocol_name listed.state.wire.protocol.0) ++ codes " "))

abbrev pub rest : State → List ℕ
rest state = ends_by state.direction state ++ (codes "       " ++ (names_by state.direction state.peers ++ 10 ∷ []))

-- INTERFACE PROTOCOL ENDS       STATE:STATE
unfoldable pub pfctl_line : Listed → List ℕ
pfctl_line listed = front listed ++ rest listed.state
