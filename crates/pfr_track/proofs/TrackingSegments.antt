-- How far the ends of a TCP connection come by a segment.
use Rattle.std.proofs.Common.{◌≡◌, ◌+◌, ◌-◌, ◌%◌, ◌^◌, ◌<◌, ◌≤◌, ℕ, Bool, true, false, cond, eqb, Option, Some, None, refl, sym, ◌∙◌, arith}
use Rattle.std.proofs.lemmas.Bool.{false≢true, leb-false}
use Rattle.pfr_headers.specs.declared.tcp.TcpHeader.{TcpHeader}
use Rattle.pfr_track.specs.declared.segment.Exchange.{Exchange}
use Rattle.pfr_track.specs.declared.segment.Segment.{Segment}
use Rattle.pfr_track.specs.declared.sequence.Sequence.{Sequence}
use Rattle.pfr_track.specs.declared.tcp.TcpPeer.{TcpPeer}
use Rattle.pfr_track.specs.declared.tcp.TcpPeerState.{TcpPeerState}
use Rattle.pfr_track.specs.declared.tcp.TcpPeerState.TheVariants.{Closed, Listen, SynSent, SynReceived, Established, CloseWait, FinWait1, Closing, LastAck, FinWait2, TimeWait}
use Rattle.pfr_track.specs.Laws.{HasMovedOn}
use Rattle.pfr_track.specs.Sequences.{is_at_least}
use Rattle.pfr_track.specs.Tcp.{acknowledged, acknowledged_state, begun, code_of, eased, first_seen, has_reached, is_ack, is_fin, is_rst, is_syn, lacks_acknowledgement, low_by, moved, opened, prepared, raised, raised_to, receiver_state, sender_state, settled, with_scales}

-- ---- states

time_wait_is_last : (state : TcpPeerState) → code_of state ≤ code_of TimeWait
unfolding code_of
time_wait_is_last Closed = omega arith
time_wait_is_last Listen = omega arith
time_wait_is_last SynSent = omega arith
time_wait_is_last SynReceived = omega arith
time_wait_is_last Established = omega arith
time_wait_is_last CloseWait = omega arith
time_wait_is_last FinWait1 = omega arith
time_wait_is_last Closing = omega arith
time_wait_is_last LastAck = omega arith
time_wait_is_last FinWait2 = omega arith
time_wait_is_last TimeWait = omega arith

raised_by : (there : Bool) (other state : TcpPeerState) → has_reached other state ≡ there → code_of state ≤ code_of (cond there state other)
raised_by true other state is = omega arith
raised_by false other state is = let below = leb-false (code_of other) (code_of state) is in omega arith

raised_never_lowers : (other state : TcpPeerState) → code_of state ≤ code_of (raised_to other state)
raised_never_lowers other state = raised_by (has_reached other state) other state refl

acknowledged_never_lowers : (state : TcpPeerState) → code_of state ≤ code_of (acknowledged_state state)
unfolding code_of
acknowledged_never_lowers Closed = omega arith
acknowledged_never_lowers Listen = omega arith
acknowledged_never_lowers SynSent = omega arith
acknowledged_never_lowers SynReceived = omega arith
acknowledged_never_lowers Established = omega arith
acknowledged_never_lowers CloseWait = omega arith
acknowledged_never_lowers FinWait1 = omega arith
acknowledged_never_lowers Closing = omega arith
acknowledged_never_lowers LastAck = omega arith
acknowledged_never_lowers FinWait2 = omega arith
acknowledged_never_lowers TimeWait = omega arith

raised_if : (test : Bool) (other state : TcpPeerState) → code_of state ≤ code_of (cond test (raised_to other state) state)
raised_if true other state = raised_never_lowers other state
raised_if false other state = omega arith

last_if : (test : Bool) (old state : TcpPeerState) → code_of old ≤ code_of state → code_of old ≤ code_of (cond test TimeWait state)
last_if true old state h = time_wait_is_last old
last_if false old state h = h

sender_never_goes_back : (header : TcpHeader) (state : TcpPeerState) → code_of state ≤ code_of (sender_state header state)
sender_never_goes_back header state =
    let opening = cond (is_syn header) (raised_to SynSent state) state in
    let closing = cond (is_fin header) (raised_to Closing opening) opening in
    let one = raised_if (is_syn header) SynSent state in
    let two = raised_if (is_fin header) Closing opening in
    last_if (is_rst header) state closing (omega (arith, one, two))

known_if : (test : Bool) (state : TcpPeerState) → code_of state ≤ code_of (cond test (acknowledged_state state) state)
known_if true state = acknowledged_never_lowers state
known_if false state = omega arith

receiver_never_goes_back : (header : TcpHeader) (state : TcpPeerState) → code_of state ≤ code_of (receiver_state header state)
receiver_never_goes_back header state = last_if (is_rst header) state (cond (is_ack header) (acknowledged_state state) state) (known_if (is_ack header) state)

-- ---- sequence numbers

nowhere : (n : ℕ) → n < 2 ^ 32 → (n + (2 ^ 32 - n)) % 2 ^ 32 ≡ 0
nowhere n below = let sum : n + (2 ^ 32 - n) ≡ 2 ^ 32 = omega arith in rw sum refl

-- a number is no earlier one than itself
at_least_itself : (a : Sequence) → a.0 < 2 ^ 32 → is_at_least a a ≡ true
at_least_itself a below = rw (nowhere a.0 below) refl

low_if : (test : Bool) (low end : Sequence) → low.0 < 2 ^ 32 → is_at_least end low ≡ test → is_at_least (cond test end low) low ≡ true
low_if true low end below is = is
low_if false low end below is = at_least_itself low below

low_goes_forward : (low end : Sequence) → low.0 < 2 ^ 32 → is_at_least (low_by low end) low ≡ true
low_goes_forward low end below = low_if (is_at_least end low) low end below refl

-- ---- the ends before the window is looked at

-- what is kept of both ends until a segment fits
pub record AreKept (sender receiver : TcpPeer) (e : Exchange) : Type 0 where
  -- the sender is no less far, and if it was seen, at its place
  pub sender_state : code_of sender.state ≤ code_of e.sender.state
  pub sender_low : has_reached SynSent sender.state ≡ true → e.sender.low ≡ sender.low
  -- and the other end is where it was
  pub receiver_state : e.receiver.state ≡ receiver.state
  pub receiver_low : e.receiver.low ≡ receiver.low

kept_by_begun : (sender receiver : TcpPeer) (header : TcpHeader) → AreKept sender receiver (begun sender receiver header)
unfolding begun
kept_by_begun sender receiver header = record { sender_state = omega arith; sender_low = λ seen. refl; receiver_state = refl; receiver_low = refl }

-- the ends that a change of scales leaves
pub record AreSameEnds (e f : Exchange) : Type 0 where
  pub sender_state : f.sender.state ≡ e.sender.state
  pub receiver_state : f.receiver.state ≡ e.receiver.state
  pub receiver_low : f.receiver.low ≡ e.receiver.low

settled_ends : (own other : Option ℕ) (e : Exchange) → AreSameEnds e (settled own other e)
settled_ends None None e = record { sender_state = refl; receiver_state = refl; receiver_low = refl }
settled_ends (Some own) None e = record { sender_state = refl; receiver_state = refl; receiver_low = refl }
settled_ends None (Some other) e = record { sender_state = refl; receiver_state = refl; receiver_low = refl }
settled_ends (Some own) (Some other) e = record { sender_state = refl; receiver_state = refl; receiver_low = refl }

scaled_if : (test : Bool) (own other : Option ℕ) (e : Exchange) → AreSameEnds e (cond test (settled own other e) e)
scaled_if true own other e = settled_ends own other e
scaled_if false own other e = record { sender_state = refl; receiver_state = refl; receiver_low = refl }

scaled_ends : (header : TcpHeader) (e : Exchange) → AreSameEnds e (with_scales header e)
scaled_ends header e = scaled_if (is_syn header) header.window_scale e.receiver.scale e

-- an end that is seen for the first time
kept_if_first : (e f : Exchange) → AreSameEnds e f → has_reached SynSent e.sender.state ≡ false → AreKept e.sender e.receiver (first_seen f)
unfolding first_seen
kept_if_first e f same unseen =
    let below = leb-false (code_of SynSent) (code_of e.sender.state) unseen in
    record {
      sender_state = omega arith;
      sender_low = λ seen. absurd (false≢true (sym unseen ∙ seen));
      receiver_state = same.receiver_state;
      receiver_low = same.receiver_low;
    }

kept_by_opened : (seen : Bool) (e f : Exchange) → AreSameEnds e f → has_reached SynSent e.sender.state ≡ seen → AreKept e.sender e.receiver (cond seen e (first_seen f))
kept_by_opened true e f same is = record { sender_state = omega arith; sender_low = λ seen. refl; receiver_state = refl; receiver_low = refl }
kept_by_opened false e f same is = kept_if_first e f same is

opened_keeps : (header : TcpHeader) (e : Exchange) → AreKept e.sender e.receiver (opened header e)
unfolding opened
opened_keeps header e = kept_by_opened (has_reached SynSent e.sender.state) e (with_scales header e) (scaled_ends header e) refl

begun_opened : (sender receiver : TcpPeer) (header : TcpHeader) → AreKept sender receiver (opened header (begun sender receiver header))
unfolding begun
begun_opened sender receiver header = opened_keeps header (begun sender receiver header)

-- a step that changes only what the segment says
segment_if : (test : Bool) (sender receiver : TcpPeer) (e : Exchange) (s : Segment) → AreKept sender receiver e → AreKept sender receiver (cond test (record e { segment = s }) e)
segment_if true sender receiver e s kept = record { sender_state = kept.sender_state; sender_low = kept.sender_low; receiver_state = kept.receiver_state; receiver_low = kept.receiver_low }
segment_if false sender receiver e s kept = kept

acknowledged_keeps : (sender receiver : TcpPeer) (header : TcpHeader) (e : Exchange) → AreKept sender receiver e → AreKept sender receiver (acknowledged header e)
unfolding acknowledged
acknowledged_keeps sender receiver header e kept =
    segment_if (lacks_acknowledgement header e) sender receiver e (record e.segment { acknowledgement = e.receiver.low }) kept

eased_keeps : (sender receiver : TcpPeer) (e : Exchange) → AreKept sender receiver e → AreKept sender receiver (eased e)
unfolding eased
eased_keeps sender receiver e kept =
    segment_if (eqb e.segment.sequence.0 e.segment.end.0) sender receiver e (record e.segment { sequence = e.sender.low; end = e.sender.low; data_end = e.sender.low }) kept

prepared_keeps : (sender receiver : TcpPeer) (header : TcpHeader) → AreKept sender receiver (prepared sender receiver header)
unfolding prepared
prepared_keeps sender receiver header =
    let opening = opened header (begun sender receiver header) in
    eased_keeps sender receiver (acknowledged header opening) (acknowledged_keeps sender receiver header opening (begun_opened sender receiver header))

-- ---- the ends behind a segment that fits

sender_moves : (sender receiver : TcpPeer) (header : TcpHeader) (e : Exchange) → AreKept sender receiver e → HasMovedOn sender (raised header (moved e)).sender
unfolding raised moved
sender_moves sender receiver header e kept =
    let state = kept.sender_state in
    let more = sender_never_goes_back header e.sender.state in
    record {
      state = omega (arith, state, more);
      low = λ seen below. rw (kept.sender_low seen) (low_goes_forward sender.low e.segment.end below);
    }

receiver_moves : (sender receiver : TcpPeer) (header : TcpHeader) (e : Exchange) → AreKept sender receiver e → HasMovedOn receiver (raised header (moved e)).receiver
unfolding raised moved
receiver_moves sender receiver header e kept = record {
  state = rw kept.receiver_state (receiver_never_goes_back header receiver.state);
  low = λ seen below. rw kept.receiver_low (at_least_itself receiver.low below);
}

pub sender_moves_on : (sender receiver : TcpPeer) (header : TcpHeader) → HasMovedOn sender (raised header (moved (prepared sender receiver header))).sender
sender_moves_on sender receiver header = sender_moves sender receiver header (prepared sender receiver header) (prepared_keeps sender receiver header)

pub receiver_moves_on : (sender receiver : TcpPeer) (header : TcpHeader) → HasMovedOn receiver (raised header (moved (prepared sender receiver header))).receiver
receiver_moves_on sender receiver header = receiver_moves sender receiver header (prepared sender receiver header) (prepared_keeps sender receiver header)
