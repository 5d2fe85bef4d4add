-- How far the ends of a connection come by a packet.
use Rattle.std.proofs.Common.{◌≡◌, ◌≤◌, Bool, true, false, cond, subst, arith}
use Rattle.pfr_net.specs.declared.direction.Direction.{Direction}
use Rattle.pfr_net.specs.declared.timeout.Timeouts.{Timeouts}
use Rattle.pfr_headers.specs.declared.packet.Packet.{Packet}
use Rattle.pfr_headers.specs.declared.tcp.TcpHeader.{TcpHeader}
use Rattle.pfr_headers.specs.declared.transport.Transport.{Transport}
use Rattle.pfr_track.specs.declared.datagram.DatagramPeer.{DatagramPeer}
use Rattle.pfr_track.specs.declared.datagram.DatagramPeer.TheVariants.{Silent, Single, Multiple}
use Rattle.pfr_track.specs.declared.outcome.Followed.{Followed}
use Rattle.pfr_track.specs.declared.outcome.Followed.TheVariants as follow
use Rattle.pfr_track.specs.declared.outcome.Touch.TheVariants.{Touched}
use Rattle.pfr_track.specs.declared.outcome.Track.{Track}
use Rattle.pfr_track.specs.declared.outcome.Track.TheVariants as tracks
use Rattle.pfr_track.specs.declared.peers.Peers.{Peers}
use Rattle.pfr_track.specs.declared.peers.Peers.TheVariants as peers
use Rattle.pfr_track.specs.declared.state.State.{State}
use Rattle.pfr_track.specs.declared.tcp.TcpPeer.{TcpPeer}
use Rattle.pfr_track.specs.declared.time.Clock.{Clock}
use Rattle.pfr_track.specs.Datagrams.{answered, code_of, spoken}
use Rattle.pfr_track.specs.Laws.{HaveMovedOn, HaveMovedOnDatagrams, HaveMovedOnTcp}
use Rattle.pfr_track.specs.Tcp.{begins_anew, fits, moved, prepared, raised}
use Rattle.pfr_track.specs.Tracking.{exchanged, followed, is_same_way, placed, tcp_track, touched, track}
use Rattle.pfr_track.proofs.TrackingKinds.{of_track}
use Rattle.pfr_track.proofs.TrackingLeft.{accepted}
use Rattle.pfr_track.proofs.TrackingSegments.{sender_moves_on, receiver_moves_on}

-- ---- TCP

-- neither end goes back if the segment is accepted
abbrev FollowsOn : TcpPeer → TcpPeer → Followed → Type 0
FollowsOn sender receiver follow.Removed = Unit
FollowsOn sender receiver follow.Refused = Unit
FollowsOn sender receiver (follow.Accepted next_sender next_receiver) = HaveMovedOnTcp sender receiver next_sender next_receiver

follows_if : (anew fits : Bool) (sender receiver next_sender next_receiver : TcpPeer) → HaveMovedOnTcp sender receiver next_sender next_receiver
    → FollowsOn sender receiver (cond anew follow.Removed (cond fits (follow.Accepted next_sender next_receiver) follow.Refused))
follows_if true fits sender receiver next_sender next_receiver on = tt
follows_if false true sender receiver next_sender next_receiver on = on
follows_if false false sender receiver next_sender next_receiver on = tt

follows_on : (sender receiver : TcpPeer) (header : TcpHeader) → FollowsOn sender receiver (followed sender receiver header)
unfolding followed
follows_on sender receiver header =
    let e = raised header (moved (prepared sender receiver header)) in
    follows_if (begins_anew sender receiver header) (fits (prepared sender receiver header)) sender receiver e.sender e.receiver
    (record { first_has = sender_moves_on sender receiver header; second_has = receiver_moves_on sender receiver header })

-- neither end goes back if the packet is accepted
abbrev TracksOn : Peers → Track → Type 0
TracksOn ends tracks.Removed = Unit
TracksOn ends tracks.Refused = Unit
TracksOn ends (tracks.Accepted next timeout) = HaveMovedOn ends next

placed_forth : (first second : TcpPeer) (f : Followed) → FollowsOn first second f → TracksOn (peers.Tcp first second) (placed true f)
placed_forth first second follow.Removed on = tt
placed_forth first second follow.Refused on = tt
placed_forth first second (follow.Accepted next_first next_second) on = on

placed_back : (first second : TcpPeer) (f : Followed) → FollowsOn second first f → TracksOn (peers.Tcp first second) (placed false f)
placed_back first second follow.Removed on = tt
placed_back first second follow.Refused on = tt
placed_back first second (follow.Accepted next_second next_first) on = record { first_has = on.second_has; second_has = on.first_has }

tcp_on : (is_forth : Bool) (first second : TcpPeer) (header : TcpHeader) → TracksOn (peers.Tcp first second) (tcp_track first second header is_forth)
unfolding tcp_track
tcp_on true first second header = placed_forth first second (followed first second header) (follows_on first second header)
tcp_on false first second header = placed_back first second (followed second first header) (follows_on second first header)

-- ---- datagrams

speaking : (end : DatagramPeer) → code_of end ≤ code_of (spoken end)
speaking Silent = omega arith
speaking Single = omega arith
speaking Multiple = omega arith

answering : (end : DatagramPeer) → code_of end ≤ code_of (answered end)
answering Silent = omega arith
answering Single = omega arith
answering Multiple = omega arith

datagrams_on : (is_forth : Bool) (first second : DatagramPeer) → HaveMovedOnDatagrams first second (exchanged first second is_forth).0 (exchanged first second is_forth).1
datagrams_on true first second = record { first_has = speaking first; second_has = answering second }
datagrams_on false first second = record { first_has = answering first; second_has = speaking second }

-- ---- all

track_on : (is_forth : Bool) (ends : Peers) (t : Transport) → TracksOn ends (track ends t is_forth)
track_on is_forth ends t = of_track is_forth TracksOn (record {
  tcp = tcp_on is_forth;
  udp = datagrams_on is_forth;
  icmp = tt;
  other = datagrams_on is_forth;
  refused = λ e. tt;
}) ends t

pub moved_on : (state next : State) (packet : Packet) (direction : Direction) (clock : Clock) (timeouts : Timeouts) → touched state packet direction clock timeouts ≡ Touched next → HaveMovedOn state.peers next.peers
moved_on state next packet direction clock timeouts is =
    let by = accepted state next packet direction clock timeouts is in
    let on : HaveMovedOn state.peers by.ends = subst (λ (t : Track). TracksOn state.peers t) by.is (track_on (is_same_way direction state.direction) state.peers packet.transport) in
    subst (λ (s : State). HaveMovedOn state.peers s.peers) by.next_is on
