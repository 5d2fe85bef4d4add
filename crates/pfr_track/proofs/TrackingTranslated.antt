-- A packet behind a translation is tracked as before it.
use Rattle.std.proofs.Common.{◌≡◌, Bool, true, false, refl, ap, ◌∙◌}
use Rattle.pfr_net.specs.declared.direction.Direction.{Direction}
use Rattle.pfr_net.specs.declared.endpoint.Endpoint.{Endpoint}
use Rattle.pfr_net.specs.declared.port.Port.{Port}
use Rattle.pfr_net.specs.declared.timeout.Timeouts.{Timeouts}
use Rattle.pfr_headers.specs.declared.change.End.{End}
use Rattle.pfr_headers.specs.declared.change.End.TheVariants.{Source, Destination}
use Rattle.pfr_headers.specs.declared.icmp.IcmpMessage.{IcmpMessage}
use Rattle.pfr_headers.specs.declared.icmp.IcmpMessage.TheVariants as message
use Rattle.pfr_headers.specs.declared.packet.Packet.{Packet}
use Rattle.pfr_headers.specs.declared.tcp.TcpHeader.{TcpHeader}
use Rattle.pfr_headers.specs.declared.transport.Transport.{Transport}
use Rattle.pfr_headers.specs.declared.transport.Transport.TheVariants as transport
use Rattle.pfr_headers.specs.Translated.{message_with, tcp_with, translated, transport_with}
use Rattle.pfr_track.specs.declared.outcome.Touch.{Touch}
use Rattle.pfr_track.specs.declared.outcome.Track.{Track}
use Rattle.pfr_track.specs.declared.outcome.Track.TheVariants as tracks
use Rattle.pfr_track.specs.declared.peers.Peers.{Peers}
use Rattle.pfr_track.specs.declared.peers.Peers.TheVariants as peers
use Rattle.pfr_track.specs.declared.state.State.{State}
use Rattle.pfr_track.specs.declared.tcp.TcpPeer.{TcpPeer}
use Rattle.pfr_track.specs.declared.time.Clock.{Clock}
use Rattle.pfr_track.specs.Tcp.{acknowledged, begun, opened, prepared, raised}
use Rattle.pfr_track.specs.Tracking.{echo_by, followed, is_same_way, placed, tcp_track, touched, track, with_track}

followed_alike : (end : End) (port : Port) (sender receiver : TcpPeer) (header : TcpHeader) → followed sender receiver (tcp_with end port header) ≡ followed sender receiver header
unfolding followed begun opened acknowledged prepared raised
followed_alike Source port sender receiver header = refl
followed_alike Destination port sender receiver header = refl

tcp_alike : (end : End) (port : Port) (first second : TcpPeer) (header : TcpHeader) (is_forth : Bool) → tcp_track first second (tcp_with end port header) is_forth ≡ tcp_track first second header is_forth
unfolding tcp_track
tcp_alike end port first second header true = ap (λ f. placed true f) (followed_alike end port first second header)
tcp_alike end port first second header false = ap (λ f. placed false f) (followed_alike end port second first header)

echo_alike : (port : Port) (m : IcmpMessage) → echo_by (message_with port m) ≡ echo_by m
echo_alike port (message.Echo identifier) = refl
echo_alike port (message.Error inner) = refl
echo_alike port message.Other = refl

track_alike : (end : End) (port : Port) (ends : Peers) (t : Transport) (is_forth : Bool) → track ends (transport_with end port t) is_forth ≡ track ends t is_forth
unfolding track
track_alike end port (peers.Tcp first second) transport.Fragment is_forth = refl
track_alike end port (peers.Tcp first second) (transport.Tcp header) is_forth = tcp_alike end port first second header is_forth
track_alike end port (peers.Tcp first second) (transport.Udp header) is_forth = refl
track_alike end port (peers.Tcp first second) (transport.Icmp header) is_forth = refl
track_alike end port (peers.Tcp first second) transport.Other is_forth = refl
track_alike end port (peers.Udp first second) transport.Fragment is_forth = refl
track_alike end port (peers.Udp first second) (transport.Tcp header) is_forth = refl
track_alike end port (peers.Udp first second) (transport.Udp header) is_forth = refl
track_alike end port (peers.Udp first second) (transport.Icmp header) is_forth = refl
track_alike end port (peers.Udp first second) transport.Other is_forth = refl
track_alike end port peers.Icmp transport.Fragment is_forth = refl
track_alike end port peers.Icmp (transport.Tcp header) is_forth = refl
track_alike end port peers.Icmp (transport.Udp header) is_forth = refl
track_alike end port peers.Icmp (transport.Icmp header) is_forth = echo_alike port header.message
track_alike end port peers.Icmp transport.Other is_forth = refl
track_alike end port (peers.Other first second) transport.Fragment is_forth = refl
track_alike end port (peers.Other first second) (transport.Tcp header) is_forth = refl
track_alike end port (peers.Other first second) (transport.Udp header) is_forth = refl
track_alike end port (peers.Other first second) (transport.Icmp header) is_forth = refl
track_alike end port (peers.Other first second) transport.Other is_forth = refl

-- a packet is counted by its length alone, which stays
counted_alike : (state : State) (packet other : Packet) (is_forth : Bool) (clock : Clock) (timeouts : Timeouts) (t : Track)
    → other.total_length ≡ packet.total_length
    → with_track state other is_forth clock timeouts t ≡ with_track state packet is_forth clock timeouts t
counted_alike state packet other is_forth clock timeouts tracks.Removed is = refl
counted_alike state packet other is_forth clock timeouts tracks.Refused is = refl
counted_alike state packet other is_forth clock timeouts (tracks.Accepted ends timeout) is =
    ap (λ length. with_track state (record packet { total_length = length }) is_forth clock timeouts (tracks.Accepted ends timeout)) is

pub touched_alike : (state : State) (packet : Packet) (end : End) (to : Endpoint) (direction : Direction) (clock : Clock) (timeouts : Timeouts)
    → touched state (translated end to packet) direction clock timeouts ≡ touched state packet direction clock timeouts
unfolding touched
touched_alike state packet Source to direction clock timeouts =
    let is_forth = is_same_way direction state.direction in
    counted_alike state packet (translated Source to packet) is_forth clock timeouts (track state.peers (transport_with Source to.port packet.transport) is_forth) refl
    ∙ ap (λ t. with_track state packet is_forth clock timeouts t) (track_alike Source to.port state.peers packet.transport is_forth)
touched_alike state packet Destination to direction clock timeouts =
    let is_forth = is_same_way direction state.direction in
    counted_alike state packet (translated Destination to packet) is_forth clock timeouts (track state.peers (transport_with Destination to.port packet.transport) is_forth) refl
    ∙ ap (λ t. with_track state packet is_forth clock timeouts t) (track_alike Destination to.port state.peers packet.transport is_forth)
