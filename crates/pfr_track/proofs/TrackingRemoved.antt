-- What a packet ends.
use Rattle.std.proofs.Common.{◌≡◌, ◌&&◌, Bool, true, false, not, cond, refl}
use Rattle.std.proofs.lemmas.Bool.{and_parts}
use Rattle.pfr_net.specs.declared.direction.Direction.{Direction}
use Rattle.pfr_net.specs.declared.timeout.Timeouts.{Timeouts}
use Rattle.pfr_headers.specs.declared.packet.Packet.{Packet}
use Rattle.pfr_headers.specs.declared.tcp.TcpHeader.{TcpHeader}
use Rattle.pfr_headers.specs.declared.transport.Transport.{Transport}
use Rattle.pfr_track.specs.declared.outcome.Followed.{Followed}
use Rattle.pfr_track.specs.declared.outcome.Followed.TheVariants as follow
use Rattle.pfr_track.specs.declared.outcome.Touch.TheVariants.{Removed}
use Rattle.pfr_track.specs.declared.outcome.Track.{Track}
use Rattle.pfr_track.specs.declared.outcome.Track.TheVariants as tracks
use Rattle.pfr_track.specs.declared.peers.Peers.{Peers}
use Rattle.pfr_track.specs.declared.state.State.{State}
use Rattle.pfr_track.specs.declared.tcp.TcpPeer.{TcpPeer}
use Rattle.pfr_track.specs.declared.tcp.TcpPeerState.TheVariants.{FinWait2}
use Rattle.pfr_track.specs.declared.time.Clock.{Clock}
use Rattle.pfr_track.specs.Laws.{HaveBothClosed, HaveClosed}
use Rattle.pfr_track.specs.Tcp.{begins_anew, fits, has_reached, is_ack, is_syn, moved, prepared, raised}
use Rattle.pfr_track.specs.Tracking.{followed, is_same_way, placed, tcp_track, touched, track, with_track}
use Rattle.pfr_track.proofs.TrackingKinds.{of_track}

-- a new connection is begun only over ends that have both closed
removed_by : (anew fits : Bool) (sender receiver first second : TcpPeer) (header : TcpHeader) → begins_anew sender receiver header ≡ anew
    → cond anew follow.Removed (cond fits (follow.Accepted first second) follow.Refused) ≡ follow.Removed → HaveBothClosed sender receiver
removed_by true fits sender receiver first second header anew is =
    let both = and_parts (is_syn header && not (is_ack header)) (has_reached FinWait2 sender.state && has_reached FinWait2 receiver.state) anew in
    let ends = and_parts (has_reached FinWait2 sender.state) (has_reached FinWait2 receiver.state) both.1 in
    record { first_has = ends.0; second_has = ends.1 }
removed_by false true sender receiver first second header anew is = absurd (cc is)
removed_by false false sender receiver first second header anew is = absurd (cc is)

followed_removed : (sender receiver : TcpPeer) (header : TcpHeader) → followed sender receiver header ≡ follow.Removed → HaveBothClosed sender receiver
unfolding followed
followed_removed sender receiver header is =
    removed_by (begins_anew sender receiver header) (fits (prepared sender receiver header)) sender receiver
    (raised header (moved (prepared sender receiver header))).sender (raised header (moved (prepared sender receiver header))).receiver header refl is

placed_removed : (is_forth : Bool) (f : Followed) → placed is_forth f ≡ tracks.Removed → f ≡ follow.Removed
placed_removed is_forth follow.Removed is = refl
placed_removed is_forth follow.Refused is = absurd (cc is)
placed_removed is_forth (follow.Accepted sender receiver) is = absurd (cc is)

tcp_removed : (first second : TcpPeer) (header : TcpHeader) (is_forth : Bool) → tcp_track first second header is_forth ≡ tracks.Removed → HaveBothClosed first second
unfolding tcp_track
tcp_removed first second header true is = followed_removed first second header (placed_removed true (followed first second header) is)
tcp_removed first second header false is =
    let other = followed_removed second first header (placed_removed false (followed second first header) is) in
    record { first_has = other.second_has; second_has = other.first_has }

track_removed : (ends : Peers) (t : Transport) (is_forth : Bool) → track ends t is_forth ≡ tracks.Removed → HaveClosed ends
track_removed ends t is_forth is = of_track is_forth (λ (e : Peers) (r : Track). r ≡ tracks.Removed → HaveClosed e) (record {
  tcp = λ first second header removed. tcp_removed first second header is_forth removed;
  udp = λ first second removed. cc removed;
  icmp = λ removed. cc removed;
  other = λ first second removed. cc removed;
  refused = λ e removed. absurd (cc removed);
}) ends t is

with_removed : (state : State) (packet : Packet) (is_forth : Bool) (clock : Clock) (timeouts : Timeouts) (t : Track) → with_track state packet is_forth clock timeouts t ≡ Removed → t ≡ tracks.Removed
with_removed state packet is_forth clock timeouts tracks.Removed is = refl
with_removed state packet is_forth clock timeouts tracks.Refused is = absurd (cc is)
with_removed state packet is_forth clock timeouts (tracks.Accepted ends timeout) is = absurd (cc is)

pub have_closed : (state : State) (packet : Packet) (direction : Direction) (clock : Clock) (timeouts : Timeouts) → touched state packet direction clock timeouts ≡ Removed → HaveClosed state.peers
unfolding touched
have_closed state packet direction clock timeouts is =
    track_removed state.peers packet.transport (is_same_way direction state.direction)
    (with_removed state packet (is_same_way direction state.direction) clock timeouts (track state.peers packet.transport (is_same_way direction state.direction)) is)
