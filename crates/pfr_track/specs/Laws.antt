-- Words of the laws: what a packet makes, leaves and ends, how far the ends of a connection come, and a connection from
-- its other side.
use Rattle.std.specs.Prelude.{◌≡◌, ◌≢◌, ◌+◌, ◌^◌, ◌<◌, ◌≤◌, true}
use Rattle.pfr_net.specs.declared.direction.Direction.{Direction}
use Rattle.pfr_net.specs.declared.direction.Direction.TheVariants.{In, Out}
use Rattle.pfr_net.specs.declared.endpoint.Endpoint.{Endpoint}
use Rattle.pfr_net.specs.declared.interface.InterfacePlace.{InterfacePlace}
use Rattle.pfr_net.specs.declared.timeout.Timeouts.{Timeouts}
use Rattle.pfr_net.specs.Timeouts.{seconds_of}
use Rattle.pfr_headers.specs.declared.change.End.{End}
use Rattle.pfr_headers.specs.declared.packet.Packet.{Packet}
use Rattle.pfr_headers.specs.declared.transport.Transport.{Transport}
use Rattle.pfr_headers.specs.declared.transport.Transport.TheVariants as transport
use Rattle.pfr_headers.specs.Translated.{translated}
use Rattle.pfr_track.specs.declared.datagram.DatagramPeer.{DatagramPeer}
use Rattle.pfr_track.specs.declared.datagram.DatagramPeer.TheVariants.{Silent, Single}
use Rattle.pfr_track.specs.declared.outcome.Touch.{Touch}
use Rattle.pfr_track.specs.declared.outcome.Touch.TheVariants.{Touched, Removed, Mismatch}
use Rattle.pfr_track.specs.declared.peers.Peers.{Peers}
use Rattle.pfr_track.specs.declared.peers.Peers.TheVariants as peers
use Rattle.pfr_track.specs.declared.state.State.{State}
use Rattle.pfr_track.specs.declared.tcp.TcpPeer.{TcpPeer}
use Rattle.pfr_track.specs.declared.tcp.TcpPeerState.TheVariants.{Closed, SynSent, FinWait2}
use Rattle.pfr_track.specs.declared.time.Clock.{Clock}
use Rattle.pfr_track.specs.Datagrams as datagram
use Rattle.pfr_track.specs.Sequences.{is_at_least}
use Rattle.pfr_track.specs.Tcp.{code_of, has_reached}
use Rattle.pfr_track.specs.Tracking.{with_packet, touched, made}
use Rattle.pfr_track.specs.declared.key.Key.{Key}
use Rattle.pfr_track.specs.declared.state.StateNumber.{StateNumber}
use Rattle.pfr_track.specs.declared.state.StateRules.{StateRules}

-- ---- what a packet leaves

-- what becomes of a state behind a packet of its connection, which comes this way
pub record IsLeftBy (state : State) (packet : Packet) (way : Direction) (clock : Clock) (timeouts : Timeouts) (next : State) : Type 0 where
  -- it is the same state
  pub number : next.number ≡ state.number
  -- of a connection that began the same way
  pub direction : next.direction ≡ state.direction
  -- with the same addresses and ports on the wire
  pub wire : next.wire ≡ state.wire
  -- and behind the translation
  pub stack : next.stack ≡ state.stack
  -- made on the same interface
  pub interface : next.interface ≡ state.interface
  -- by the same rules, so that it is bound as it was
  pub rules : next.rules ≡ state.rules
  -- at the same time
  pub made : next.made ≡ state.made
  -- its deadline is set again, by its timeout's seconds
  pub deadline : next.deadline.0 ≡ clock.0 + seconds_of timeouts next.timeout
  -- a packet that goes the way of the first one is counted there
  pub counts_forth : way ≡ state.direction → next.forth ≡ with_packet packet state.forth
  -- and not the other way
  pub keeps_back : way ≡ state.direction → next.back ≡ state.back
  -- a packet that goes the other way is counted there
  pub counts_back : way ≢ state.direction → next.back ≡ with_packet packet state.back
  -- and not the way of the first one
  pub keeps_forth : way ≢ state.direction → next.forth ≡ state.forth

-- ---- ends that have closed

-- both ends of a TCP connection have closed: their FINs were acknowledged, or there was an RST
pub record HaveBothClosed (first second : TcpPeer) : Type 0 where
  -- the maker's end
  pub first_has : has_reached FinWait2 first.state ≡ true
  -- the other one
  pub second_has : has_reached FinWait2 second.state ≡ true

-- the connection is one of TCP, and both of its ends have closed
abbrev pub HaveClosed : Peers → Type 0
HaveClosed (peers.Tcp first second) = HaveBothClosed first second
HaveClosed (peers.Udp first second) = ⊥
HaveClosed peers.Icmp = ⊥
HaveClosed (peers.Other first second) = ⊥

-- ---- a new state

-- both ends of a new TCP connection
pub record AreNewTcp (first second : TcpPeer) : Type 0 where
  -- the maker's was seen
  pub maker : first.state ≡ SynSent
  -- the other one wasn't
  pub other : second.state ≡ Closed

-- both ends of a new connection of datagrams
pub record AreNewDatagrams (first second : DatagramPeer) : Type 0 where
  -- the maker has spoken
  pub maker : first ≡ Single
  -- the other end hasn't
  pub other : second ≡ Silent

-- the ends are of the packet's kind, and new; fragments count as another protocol
abbrev pub AreMadeBy : Transport → Peers → Type 0
AreMadeBy (transport.Tcp header) (peers.Tcp first second) = AreNewTcp first second
AreMadeBy (transport.Udp header) (peers.Udp first second) = AreNewDatagrams first second
AreMadeBy (transport.Icmp header) peers.Icmp = Unit
AreMadeBy transport.Fragment (peers.Other first second) = AreNewDatagrams first second
AreMadeBy transport.Other (peers.Other first second) = AreNewDatagrams first second
AreMadeBy _ _ = ⊥

-- what is true of a state that a packet has just made
pub record IsNew (packet : Packet) (clock : Clock) (timeouts : Timeouts) (state : State) : Type 0 where
  -- it waits for as many seconds as its timeout has
  pub deadline : state.deadline.0 ≡ clock.0 + seconds_of timeouts state.timeout
  -- its ends fit the packet
  pub ends : AreMadeBy packet.transport state.peers

-- ---- ends that move on

-- how far an end of a TCP connection has come behind a packet
pub record HasMovedOn (old next : TcpPeer) : Type 0 where
  -- its state is no earlier one
  pub state : code_of old.state ≤ code_of next.state
  -- once something was seen of it, the place behind what it has sent is the same or a later one
  pub low : has_reached SynSent old.state ≡ true → old.low.0 < 2 ^ 32 → is_at_least next.low old.low ≡ true

-- both ends of a TCP connection
pub record HaveMovedOnTcp (first second next_first next_second : TcpPeer) : Type 0 where
  -- the maker's end
  pub first_has : HasMovedOn first next_first
  -- the other one
  pub second_has : HasMovedOn second next_second

-- both ends of a connection of datagrams: one that has spoken stays one that has, and so does one that was answered
pub record HaveMovedOnDatagrams (first second next_first next_second : DatagramPeer) : Type 0 where
  -- the maker's end
  pub first_has : datagram.code_of first ≤ datagram.code_of next_first
  -- the other one
  pub second_has : datagram.code_of second ≤ datagram.code_of next_second

-- the ends are still of the same kind, and neither has gone back
abbrev pub HaveMovedOn : Peers → Peers → Type 0
HaveMovedOn (peers.Tcp first second) (peers.Tcp next_first next_second) = HaveMovedOnTcp first second next_first next_second
HaveMovedOn (peers.Udp first second) (peers.Udp next_first next_second) = HaveMovedOnDatagrams first second next_first next_second
HaveMovedOn peers.Icmp peers.Icmp = Unit
HaveMovedOn (peers.Other first second) (peers.Other next_first next_second) = HaveMovedOnDatagrams first second next_first next_second
HaveMovedOn _ _ = ⊥

-- ---- a connection from its other side

-- the other way
abbrev pub opposite : Direction → Direction
opposite In = Out
opposite Out = In

-- both ends, the other one first
abbrev pub turned_ends : Peers → Peers
turned_ends (peers.Tcp first second) = peers.Tcp second first
turned_ends (peers.Udp first second) = peers.Udp second first
turned_ends peers.Icmp = peers.Icmp
turned_ends (peers.Other first second) = peers.Other second first

-- the state as if the other end had been its maker; what it says of addresses and rules stays as it is
abbrev pub turned : State → State
turned state = record state {
  direction = opposite state.direction;
  peers = turned_ends state.peers;
  forth = state.back;
  back = state.forth;
}

-- what a packet does to a state, with the state that it leaves turned
abbrev pub turned_touch : Touch → Touch
turned_touch (Touched next) = Touched (turned next)
turned_touch Removed = Removed
turned_touch Mismatch = Mismatch

-- ---- what the laws say

-- no packet takes an end back
abbrev pub EndsNeverGoBack : Type 0
EndsNeverGoBack =
    (state next : State) (packet : Packet) (direction : Direction) (clock : Clock) (timeouts : Timeouts)
    → touched state packet direction clock timeouts ≡ Touched next
    → HaveMovedOn state.peers next.peers

-- a packet that fits leaves the state what it was but for what it moves
abbrev pub WhatAPacketLeaves : Type 0
WhatAPacketLeaves =
    (state next : State) (packet : Packet) (direction : Direction) (clock : Clock) (timeouts : Timeouts)
    → touched state packet direction clock timeouts ≡ Touched next
    → IsLeftBy state packet direction clock timeouts next

-- a packet ends a state only if both ends have closed
abbrev pub OnlyEndedAreRemoved : Type 0
OnlyEndedAreRemoved =
    (state : State) (packet : Packet) (direction : Direction) (clock : Clock) (timeouts : Timeouts)
    → touched state packet direction clock timeouts ≡ Removed
    → HaveClosed state.peers

-- a new state waits by its timeout, and its ends are of the packet's kind
abbrev pub NewStateWaits : Type 0
NewStateWaits =
    (number : StateNumber) (packet : Packet) (direction : Direction) (interface : InterfacePlace) (wire stack : Key) (rules : StateRules) (clock : Clock) (timeouts : Timeouts)
    → IsNew packet clock timeouts (made number packet direction interface wire stack rules clock timeouts)

-- a packet does to a turned state what it does to the state, turned
abbrev pub BothDirectionsAgree : Type 0
BothDirectionsAgree =
    (state : State) (packet : Packet) (direction : Direction) (clock : Clock) (timeouts : Timeouts)
    → touched (turned state) packet direction clock timeouts ≡ turned_touch (touched state packet direction clock timeouts)

-- a packet behind a translation of one of its ends does to a state what it does before it
abbrev pub TranslationIsNotTracked : Type 0
TranslationIsNotTracked =
    (state : State) (packet : Packet) (end : End) (to : Endpoint) (direction : Direction) (clock : Clock) (timeouts : Timeouts)
    → touched state (translated end to packet) direction clock timeouts ≡ touched state packet direction clock timeouts
