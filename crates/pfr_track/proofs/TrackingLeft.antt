-- What a packet of a connection leaves of its state.
use Rattle.std.proofs.Common.{◌≡◌, ◌≢◌, Bool, true, false, cond, refl, subst}
use Rattle.std.proofs.lemmas.Bool.{cond-true, cond-false}
use Rattle.pfr_net.specs.declared.direction.Direction.{Direction}
use Rattle.pfr_net.specs.declared.direction.Direction.TheVariants.{In, Out}
use Rattle.pfr_net.specs.declared.timeout.Timeout.{Timeout}
use Rattle.pfr_net.specs.declared.timeout.Timeouts.{Timeouts}
use Rattle.pfr_headers.specs.declared.packet.Packet.{Packet}
use Rattle.pfr_track.specs.declared.outcome.Touch.TheVariants.{Touched}
use Rattle.pfr_track.specs.declared.outcome.Track.{Track}
use Rattle.pfr_track.specs.declared.outcome.Track.TheVariants as tracks
use Rattle.pfr_track.specs.declared.peers.Peers.{Peers}
use Rattle.pfr_track.specs.declared.state.State.{State}
use Rattle.pfr_track.specs.declared.time.Clock.{Clock}
use Rattle.pfr_track.specs.Laws.{IsLeftBy}
use Rattle.pfr_track.specs.Tracking.{deadline_by, is_same_way, touched, track, with_packet, with_track}

-- ---- ways

pub same_way : (a b : Direction) → a ≡ b → is_same_way a b ≡ true
same_way In In is = refl
same_way Out Out is = refl
same_way In Out is = absurd (cc is)
same_way Out In is = absurd (cc is)

pub other_way : (a b : Direction) → a ≢ b → is_same_way a b ≡ false
other_way In In is = absurd (is refl)
other_way Out Out is = absurd (is refl)
other_way In Out is = refl
other_way Out In is = refl

-- ---- the state behind a packet

-- the state behind an accepted packet
abbrev pub behind : State → Packet → Bool → Clock → Timeouts → Peers → Timeout → State
behind state packet is_forth clock timeouts ends timeout = record state {
  peers = ends;
  timeout = timeout;
  deadline = deadline_by clock timeouts timeout;
  forth = cond is_forth (with_packet packet state.forth) state.forth;
  back = cond is_forth state.back (with_packet packet state.back);
}

-- both ends and the timeout that a packet was accepted with
pub record WasAccepted (state : State) (packet : Packet) (is_forth : Bool) (clock : Clock) (timeouts : Timeouts) (t : Track) (next : State) : Type 0 where
  pub ends : Peers
  pub timeout : Timeout
  pub is : t ≡ tracks.Accepted ends timeout
  pub next_is : behind state packet is_forth clock timeouts ends timeout ≡ next

accepted_by : (state : State) (packet : Packet) (is_forth : Bool) (clock : Clock) (timeouts : Timeouts) (t : Track) (next : State) → with_track state packet is_forth clock timeouts t ≡ Touched next → WasAccepted state packet is_forth clock timeouts t next
accepted_by state packet is_forth clock timeouts tracks.Removed next is = absurd (cc is)
accepted_by state packet is_forth clock timeouts tracks.Refused next is = absurd (cc is)
accepted_by state packet is_forth clock timeouts (tracks.Accepted ends timeout) next is = record { ends = ends; timeout = timeout; is = refl; next_is = cc is }

pub accepted : (state next : State) (packet : Packet) (direction : Direction) (clock : Clock) (timeouts : Timeouts) → touched state packet direction clock timeouts ≡ Touched next
    → WasAccepted state packet (is_same_way direction state.direction) clock timeouts (track state.peers packet.transport (is_same_way direction state.direction)) next
unfolding touched
accepted state next packet direction clock timeouts is =
    accepted_by state packet (is_same_way direction state.direction) clock timeouts (track state.peers packet.transport (is_same_way direction state.direction)) next is

left_behind : (state : State) (packet : Packet) (direction : Direction) (clock : Clock) (timeouts : Timeouts) (ends : Peers) (timeout : Timeout)
    → IsLeftBy state packet direction clock timeouts (behind state packet (is_same_way direction state.direction) clock timeouts ends timeout)
left_behind state packet direction clock timeouts ends timeout = record {
  number = refl;
  direction = refl;
  wire = refl;
  stack = refl;
  interface = refl;
  rules = refl;
  made = refl;
  deadline = refl;
  counts_forth = λ same. cond-true (is_same_way direction state.direction) (with_packet packet state.forth) state.forth (same_way direction state.direction same);
  keeps_back = λ same. cond-true (is_same_way direction state.direction) state.back (with_packet packet state.back) (same_way direction state.direction same);
  counts_back = λ other. cond-false (is_same_way direction state.direction) state.back (with_packet packet state.back) (other_way direction state.direction other);
  keeps_forth = λ other. cond-false (is_same_way direction state.direction) (with_packet packet state.forth) state.forth (other_way direction state.direction other);
}

pub left_by : (state next : State) (packet : Packet) (direction : Direction) (clock : Clock) (timeouts : Timeouts) → touched state packet direction clock timeouts ≡ Touched next → IsLeftBy state packet direction clock timeouts next
left_by state next packet direction clock timeouts is =
    let by = accepted state next packet direction clock timeouts is in
    subst (λ (s : State). IsLeftBy state packet direction clock timeouts s) by.next_is (left_behind state packet direction clock timeouts by.ends by.timeout)
