-- What becomes of a state: the one that a packet makes, and what a packet of its connection does to it (pf.conf(5),
-- "Stateful tracking options", "timeout").
use Rattle.std.specs.Prelude.{◌+◌, ◌^◌, ◌-◌, Bool, true, false, min, if◌then◌else◌}
use Rattle.pfr_net.specs.declared.direction.Direction.{Direction}
use Rattle.pfr_net.specs.declared.direction.Direction.TheVariants.{In, Out}
use Rattle.pfr_net.specs.declared.interface.InterfacePlace.{InterfacePlace}
use Rattle.pfr_net.specs.declared.timeout.Timeout.{Timeout}
use Rattle.pfr_net.specs.declared.timeout.Timeout.TheVariants.{TcpFirst, UdpFirst, UdpSingle, UdpMultiple, IcmpFirst, IcmpError, OtherFirst, OtherSingle, OtherMultiple}
use Rattle.pfr_net.specs.declared.timeout.Timeouts.{Timeouts}
use Rattle.pfr_net.specs.Timeouts.{seconds_of}
use Rattle.pfr_headers.specs.declared.icmp.IcmpMessage.{IcmpMessage}
use Rattle.pfr_headers.specs.declared.icmp.IcmpMessage.TheVariants as message
use Rattle.pfr_headers.specs.declared.packet.Packet.{Packet}
use Rattle.pfr_headers.specs.declared.tcp.TcpHeader.{TcpHeader}
use Rattle.pfr_headers.specs.declared.transport.Transport.{Transport}
use Rattle.pfr_headers.specs.declared.transport.Transport.TheVariants as transport
use Rattle.pfr_track.specs.declared.datagram.DatagramPeer.{DatagramPeer}
use Rattle.pfr_track.specs.declared.datagram.DatagramPeer.TheVariants.{Silent, Single}
use Rattle.pfr_track.specs.declared.key.Key.{Key}
use Rattle.pfr_track.specs.declared.peers.Peers.{Peers}
use Rattle.pfr_track.specs.declared.peers.Peers.TheVariants as peers
use Rattle.pfr_track.specs.declared.state.State.{State}
use Rattle.pfr_track.specs.declared.state.StateNumber.{StateNumber}
use Rattle.pfr_track.specs.declared.state.StateRules.{StateRules}
use Rattle.pfr_track.specs.declared.state.Traffic.{Traffic}
use Rattle.pfr_track.specs.declared.tcp.TcpPeer.{TcpPeer}
use Rattle.pfr_track.specs.declared.time.Clock.{Clock}
use Rattle.pfr_track.specs.declared.time.Deadline.{Deadline}
use Rattle.pfr_track.specs.declared.outcome.Advance.{Advance}
use Rattle.pfr_track.specs.declared.outcome.Advance.TheVariants as advances
use Rattle.pfr_track.specs.declared.outcome.Followed.{Followed}
use Rattle.pfr_track.specs.declared.outcome.Followed.TheVariants as follow
use Rattle.pfr_track.specs.declared.outcome.Touch.{Touch}
use Rattle.pfr_track.specs.declared.outcome.Touch.TheVariants.{Touched, Removed, Mismatch}
use Rattle.pfr_track.specs.declared.outcome.Track.{Track}
use Rattle.pfr_track.specs.declared.outcome.Track.TheVariants as tracks
use Rattle.pfr_track.specs.Datagrams as datagram
use Rattle.pfr_track.specs.Tcp.{begins_anew, fits, maker, moved, prepared, raised, timeout_by, unseen}

-- ---- counting and waiting

-- one packet more; a count at its last value stays there
abbrev pub with_packet : Packet → Traffic → Traffic
with_packet packet traffic = record {
  packets = min (traffic.packets + 1) (2 ^ 64 - 1);
  bytes = min (traffic.bytes + packet.total_length) (2 ^ 64 - 1);
}

abbrev pub nothing : Traffic
nothing = record { packets = 0; bytes = 0 }

abbrev pub deadline_by : Clock → Timeouts → Timeout → Deadline
deadline_by clock timeouts timeout = record { 0 = clock.0 + seconds_of timeouts timeout }

-- ---- a new state

abbrev pub first_peers : Transport → Peers × Timeout
first_peers (transport.Tcp header) = (peers.Tcp (maker header) unseen, TcpFirst)
first_peers (transport.Udp header) = (peers.Udp Single Silent, UdpFirst)
first_peers (transport.Icmp header) = (peers.Icmp, IcmpFirst)
first_peers transport.Fragment = (peers.Other Single Silent, OtherFirst)
first_peers transport.Other = (peers.Other Single Silent, OtherFirst)

abbrev pub made : StateNumber → Packet → Direction → InterfacePlace → Key → Key → StateRules → Clock → Timeouts → State
made number packet direction interface wire stack rules clock timeouts = record {
  number = number;
  direction = direction;
  interface = interface;
  wire = wire;
  stack = stack;
  rules = rules;
  peers = (first_peers packet.transport).0;
  made = clock;
  deadline = deadline_by clock timeouts (first_peers packet.transport).1;
  timeout = (first_peers packet.transport).1;
  forth = with_packet packet nothing;
  back = nothing;
}

-- ---- a packet of a connection

-- a segment between its sender and the other end
unfoldable pub followed : TcpPeer → TcpPeer → TcpHeader → Followed
followed sender receiver header =
    if begins_anew sender receiver header then follow.Removed else
    if fits (prepared sender receiver header)
    then follow.Accepted (raised header (moved (prepared sender receiver header))).sender (raised header (moved (prepared sender receiver header))).receiver
    else follow.Refused

-- the ends that a segment leaves, the maker's first; if `is_forth`, the maker sent it
abbrev pub placed : Bool → Followed → Track
placed is_forth follow.Removed = tracks.Removed
placed is_forth follow.Refused = tracks.Refused
placed is_forth (follow.Accepted sender receiver) =
    tracks.Accepted (if is_forth then peers.Tcp sender receiver else peers.Tcp receiver sender) (timeout_by sender.state receiver.state)

unfoldable pub tcp_track : TcpPeer → TcpPeer → TcpHeader → Bool → Track
tcp_track first second header is_forth =
    placed is_forth (if is_forth then followed first second header else followed second first header)

-- both ends of a connection of datagrams behind a packet, the maker's first; if `is_forth`, the maker sent it
abbrev pub exchanged : DatagramPeer → DatagramPeer → Bool → DatagramPeer × DatagramPeer
exchanged first second is_forth =
    if is_forth then (datagram.spoken first, datagram.answered second) else (datagram.answered first, datagram.spoken second)

abbrev pub udp_by : DatagramPeer × DatagramPeer → Track
udp_by ends = tracks.Accepted (peers.Udp ends.0 ends.1) (datagram.timeout_by ends.0 ends.1 UdpSingle UdpMultiple)

abbrev pub other_by : DatagramPeer × DatagramPeer → Track
other_by ends = tracks.Accepted (peers.Other ends.0 ends.1) (datagram.timeout_by ends.0 ends.1 OtherSingle OtherMultiple)

abbrev pub echo_by : IcmpMessage → Track
echo_by (message.Echo identifier) = tracks.Accepted peers.Icmp IcmpError
echo_by _ = tracks.Refused

-- what a packet does to both ends; one of another kind than the connection's doesn't fit
unfoldable pub track : Peers → Transport → Bool → Track
track (peers.Tcp first second) (transport.Tcp header) is_forth = tcp_track first second header is_forth
track (peers.Udp first second) (transport.Udp header) is_forth = udp_by (exchanged first second is_forth)
track peers.Icmp (transport.Icmp header) is_forth = echo_by header.message
track (peers.Other first second) transport.Other is_forth = other_by (exchanged first second is_forth)
track _ _ is_forth = tracks.Refused

abbrev pub is_same_way : Direction → Direction → Bool
is_same_way In In = true
is_same_way Out Out = true
is_same_way _ _ = false

-- the state behind an accepted packet: the packet is counted, and the deadline set again
abbrev pub with_track : State → Packet → Bool → Clock → Timeouts → Track → Touch
with_track state packet is_forth clock timeouts tracks.Removed = Removed
with_track state packet is_forth clock timeouts tracks.Refused = Mismatch
with_track state packet is_forth clock timeouts (tracks.Accepted ends timeout) = Touched (record state {
  peers = ends;
  timeout = timeout;
  deadline = deadline_by clock timeouts timeout;
  forth = if is_forth then with_packet packet state.forth else state.forth;
  back = if is_forth then state.back else with_packet packet state.back;
})

unfoldable pub touched : State → Packet → Direction → Clock → Timeouts → Touch
touched state packet direction clock timeouts =
    with_track state packet (is_same_way direction state.direction) clock timeouts (track state.peers packet.transport (is_same_way direction state.direction))

-- the same for a state that was changed in its place
abbrev pub as_touch : Advance → State → Touch
as_touch advances.Accepted state = Touched state
as_touch advances.Removed state = Removed
as_touch advances.Mismatch state = Mismatch
