-- A connection is followed from its other side as from its maker's.
use Rattle.std.proofs.Common.{◌≡◌, Bool, true, false, not, refl, ap, ◌∙◌}
use Rattle.pfr_net.specs.declared.direction.Direction.{Direction}
use Rattle.pfr_net.specs.declared.direction.Direction.TheVariants.{In, Out}
use Rattle.pfr_net.specs.declared.timeout.Timeout.{Timeout}
use Rattle.pfr_net.specs.declared.timeout.Timeout.TheVariants.{UdpSingle, UdpMultiple, OtherSingle, OtherMultiple}
use Rattle.pfr_net.specs.declared.timeout.Timeouts.{Timeouts}
use Rattle.pfr_headers.specs.declared.icmp.IcmpMessage.{IcmpMessage}
use Rattle.pfr_headers.specs.declared.icmp.IcmpMessage.TheVariants as message
use Rattle.pfr_headers.specs.declared.packet.Packet.{Packet}
use Rattle.pfr_headers.specs.declared.tcp.TcpHeader.{TcpHeader}
use Rattle.pfr_headers.specs.declared.transport.Transport.{Transport}
use Rattle.pfr_headers.specs.declared.transport.Transport.TheVariants as transport
use Rattle.pfr_track.specs.declared.datagram.DatagramPeer.{DatagramPeer}
use Rattle.pfr_track.specs.declared.datagram.DatagramPeer.TheVariants.{Silent, Single, Multiple}
use Rattle.pfr_track.specs.declared.outcome.Followed.{Followed}
use Rattle.pfr_track.specs.declared.outcome.Followed.TheVariants as follow
use Rattle.pfr_track.specs.declared.outcome.Track.{Track}
use Rattle.pfr_track.specs.declared.outcome.Track.TheVariants as tracks
use Rattle.pfr_track.specs.declared.peers.Peers.{Peers}
use Rattle.pfr_track.specs.declared.peers.Peers.TheVariants as peers
use Rattle.pfr_track.specs.declared.state.State.{State}
use Rattle.pfr_track.specs.declared.tcp.TcpPeer.{TcpPeer}
use Rattle.pfr_track.specs.declared.time.Clock.{Clock}
use Rattle.pfr_track.specs.Datagrams.{answered, spoken, timeout_by}
use Rattle.pfr_track.specs.Laws.{opposite, turned, turned_ends, turned_touch}
use Rattle.pfr_track.specs.Tracking.{echo_by, exchanged, followed, is_same_way, other_by, placed, tcp_track, touched, track, udp_by, with_track}

abbrev turned_track : Track → Track
turned_track tracks.Removed = tracks.Removed
turned_track tracks.Refused = tracks.Refused
turned_track (tracks.Accepted ends timeout) = tracks.Accepted (turned_ends ends) timeout

-- ---- TCP

placed_turned : (is_forth : Bool) (f : Followed) → placed (not is_forth) f ≡ turned_track (placed is_forth f)
placed_turned is_forth follow.Removed = refl
placed_turned is_forth follow.Refused = refl
placed_turned true (follow.Accepted sender receiver) = refl
placed_turned false (follow.Accepted sender receiver) = refl

tcp_turned : (is_forth : Bool) (first second : TcpPeer) (header : TcpHeader) → tcp_track second first header (not is_forth) ≡ turned_track (tcp_track first second header is_forth)
unfolding tcp_track
tcp_turned true first second header = placed_turned true (followed first second header)
tcp_turned false first second header = placed_turned false (followed second first header)

-- ---- datagrams and echoes

same_timeout : (first second : DatagramPeer) (single multiple : Timeout) → timeout_by first second single multiple ≡ timeout_by second first single multiple
same_timeout Silent Silent single multiple = refl
same_timeout Silent Single single multiple = refl
same_timeout Silent Multiple single multiple = refl
same_timeout Single Silent single multiple = refl
same_timeout Single Single single multiple = refl
same_timeout Single Multiple single multiple = refl
same_timeout Multiple Silent single multiple = refl
same_timeout Multiple Single single multiple = refl
same_timeout Multiple Multiple single multiple = refl

udp_turned : (is_forth : Bool) (first second : DatagramPeer) → udp_by (exchanged second first (not is_forth)) ≡ turned_track (udp_by (exchanged first second is_forth))
udp_turned true first second = ap (λ (t : Timeout). tracks.Accepted (peers.Udp (answered second) (spoken first)) t) (same_timeout (answered second) (spoken first) UdpSingle UdpMultiple)
udp_turned false first second = ap (λ (t : Timeout). tracks.Accepted (peers.Udp (spoken second) (answered first)) t) (same_timeout (spoken second) (answered first) UdpSingle UdpMultiple)

other_turned : (is_forth : Bool) (first second : DatagramPeer) → other_by (exchanged second first (not is_forth)) ≡ turned_track (other_by (exchanged first second is_forth))
other_turned true first second = ap (λ (t : Timeout). tracks.Accepted (peers.Other (answered second) (spoken first)) t) (same_timeout (answered second) (spoken first) OtherSingle OtherMultiple)
other_turned false first second = ap (λ (t : Timeout). tracks.Accepted (peers.Other (spoken second) (answered first)) t) (same_timeout (spoken second) (answered first) OtherSingle OtherMultiple)

echo_turned : (m : IcmpMessage) → echo_by m ≡ turned_track (echo_by m)
echo_turned (message.Echo identifier) = refl
echo_turned (message.Error inner) = refl
echo_turned message.Other = refl

-- ---- all

track_turned : (is_forth : Bool) (ends : Peers) (t : Transport) → track (turned_ends ends) t (not is_forth) ≡ turned_track (track ends t is_forth)
unfolding track
track_turned is_forth (peers.Tcp first second) transport.Fragment = refl
track_turned is_forth (peers.Tcp first second) (transport.Tcp header) = tcp_turned is_forth first second header
track_turned is_forth (peers.Tcp first second) (transport.Udp header) = refl
track_turned is_forth (peers.Tcp first second) (transport.Icmp header) = refl
track_turned is_forth (peers.Tcp first second) transport.Other = refl
track_turned is_forth (peers.Udp first second) transport.Fragment = refl
track_turned is_forth (peers.Udp first second) (transport.Tcp header) = refl
track_turned is_forth (peers.Udp first second) (transport.Udp header) = udp_turned is_forth first second
track_turned is_forth (peers.Udp first second) (transport.Icmp header) = refl
track_turned is_forth (peers.Udp first second) transport.Other = refl
track_turned is_forth peers.Icmp transport.Fragment = refl
track_turned is_forth peers.Icmp (transport.Tcp header) = refl
track_turned is_forth peers.Icmp (transport.Udp header) = refl
track_turned is_forth peers.Icmp (transport.Icmp header) = echo_turned header.message
track_turned is_forth peers.Icmp transport.Other = refl
track_turned is_forth (peers.Other first second) transport.Fragment = refl
track_turned is_forth (peers.Other first second) (transport.Tcp header) = refl
track_turned is_forth (peers.Other first second) (transport.Udp header) = refl
track_turned is_forth (peers.Other first second) (transport.Icmp header) = refl
track_turned is_forth (peers.Other first second) transport.Other = other_turned is_forth first second

way_turned : (a b : Direction) → is_same_way a (opposite b) ≡ not (is_same_way a b)
way_turned In In = refl
way_turned In Out = refl
way_turned Out In = refl
way_turned Out Out = refl

with_turned : (state : State) (packet : Packet) (is_forth : Bool) (clock : Clock) (timeouts : Timeouts) (t : Track)
    → with_track (turned state) packet (not is_forth) clock timeouts (turned_track t) ≡ turned_touch (with_track state packet is_forth clock timeouts t)
with_turned state packet is_forth clock timeouts tracks.Removed = refl
with_turned state packet is_forth clock timeouts tracks.Refused = refl
with_turned state packet true clock timeouts (tracks.Accepted ends timeout) = refl
with_turned state packet false clock timeouts (tracks.Accepted ends timeout) = refl

pub touched_turned : (state : State) (packet : Packet) (direction : Direction) (clock : Clock) (timeouts : Timeouts)
    → touched (turned state) packet direction clock timeouts ≡ turned_touch (touched state packet direction clock timeouts)
unfolding touched
touched_turned state packet direction clock timeouts =
    let is_forth = is_same_way direction state.direction in
    let by_way = λ (b : Bool). with_track (turned state) packet b clock timeouts (track (turned_ends state.peers) packet.transport b) in
    let by_track = λ (t : Track). with_track (turned state) packet (not is_forth) clock timeouts t in
    ap by_way (way_turned direction state.direction) ∙ (ap by_track (track_turned is_forth state.peers packet.transport)
    ∙ with_turned state packet is_forth clock timeouts (track state.peers packet.transport is_forth))
