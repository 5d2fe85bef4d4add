-- How a TCP connection is followed, after pf: by the sequence numbers and windows of both ends (RFC 9293, sections 3.3,
-- 3.4 and 3.10.7.4; RFC 7323, section 2). An end's `low` is behind the last byte that it has sent, its `high` behind
-- the last one that it may send.
use Rattle.std.specs.Prelude.{ℕ, ◌+◌, ◌-◌, ◌*◌, ◌/◌, ◌^◌, ◌==◌, ◌&&◌, ◌||◌, Bool, not, min, max, nat_le, nat_lt, if◌then◌else◌, Option, Some, None, is_some, bit_and}
use Rattle.pfr_net.specs.declared.timeout.Timeout.{Timeout}
use Rattle.pfr_net.specs.declared.timeout.Timeout.TheVariants.{TcpOpening, TcpEstablished, TcpClosing, TcpFinWait, TcpClosed}
use Rattle.pfr_headers.specs.declared.tcp.TcpHeader.{TcpHeader}
use Rattle.pfr_track.specs.declared.sequence.Sequence.{Sequence}
use Rattle.pfr_track.specs.declared.tcp.TcpPeer.{TcpPeer}
use Rattle.pfr_track.specs.declared.tcp.TcpPeerState.{TcpPeerState}
use Rattle.pfr_track.specs.declared.tcp.TcpPeerState.TheVariants.{Closed, Listen, SynSent, SynReceived, Established, CloseWait, FinWait1, Closing, LastAck, FinWait2, TimeWait}
use Rattle.pfr_track.specs.declared.segment.Exchange.{Exchange}
use Rattle.pfr_track.specs.Sequences.{plus, minus, since, is_at_least}

-- ---- states of an end

unfoldable pub code_of : TcpPeerState → ℕ
code_of Closed = 0
code_of Listen = 1
code_of SynSent = 2
code_of SynReceived = 3
code_of Established = 4
code_of CloseWait = 5
code_of FinWait1 = 6
code_of Closing = 7
code_of LastAck = 8
code_of FinWait2 = 9
code_of TimeWait = 10

abbrev pub has_reached : TcpPeerState → TcpPeerState → Bool
has_reached wanted state = nat_le (code_of wanted) (code_of state)

abbrev pub raised_to : TcpPeerState → TcpPeerState → TcpPeerState
raised_to other state = if has_reached other state then state else other

-- behind an acknowledgement by the other end
abbrev pub acknowledged_state : TcpPeerState → TcpPeerState
acknowledged_state SynSent = Established
acknowledged_state Closing = FinWait2
acknowledged_state state = state

-- ---- flags and scales

abbrev pub has : ℕ → TcpHeader → Bool
has flag header = bit_and header.flags.0 flag == flag

abbrev pub is_fin : TcpHeader → Bool
is_fin header = has 1 header

abbrev pub is_syn : TcpHeader → Bool
is_syn header = has 2 header

abbrev pub is_rst : TcpHeader → Bool
is_rst header = has 4 header

abbrev pub is_ack : TcpHeader → Bool
is_ack header = has 16 header

-- the factor of a window with this shift; shifts above 14 count as 14
abbrev pub factor : ℕ → ℕ
factor shift = 2 ^ min shift 14

abbrev pub scaled : ℕ → ℕ → ℕ
scaled window shift = window * factor shift

-- the window that a scaled one stands for, rounded up
abbrev pub unscaled : ℕ → ℕ → ℕ
unscaled window shift = (window + factor shift - 1) / factor shift

abbrev pub shift_of : Option ℕ → ℕ
shift_of None = 0
shift_of (Some shift) = shift

-- ---- a segment between two ends

abbrev pub one_if : Bool → ℕ
one_if test = if test then 1 else 0

-- the places that it takes: its bytes, and one for SYN
abbrev pub places : TcpHeader → ℕ
places header = header.payload_length + one_if (is_syn header)

-- windows are scaled if both ends have offered it, and never in a SYN
abbrev pub are_scaled : TcpPeer → TcpPeer → TcpHeader → Bool
are_scaled sender receiver header = (is_some sender.scale && is_some receiver.scale) && not (is_syn header)

unfoldable pub begun : TcpPeer → TcpPeer → TcpHeader → Exchange
begun sender receiver header = record {
  sender = sender;
  receiver = receiver;
  segment = record {
    sequence = record { 0 = header.sequence };
    data_end = plus (record { 0 = header.sequence }) (places header);
    end = plus (record { 0 = header.sequence }) (places header + one_if (is_fin header));
    acknowledgement = record { 0 = header.acknowledgement };
    window = header.window;
    sender_shift = if are_scaled sender receiver header then shift_of sender.scale else 0;
    receiver_shift = if are_scaled sender receiver header then shift_of receiver.scale else 0;
  };
}

-- a SYN that answers an offer of a scale: if it has an offer of its own both count from now on, if not neither does
abbrev pub settled : Option ℕ → Option ℕ → Exchange → Exchange
settled own None e = e
settled None (Some other) e = record e { receiver = record e.receiver { greatest_window = min (scaled e.receiver.greatest_window other) 65535; scale = None } }
settled (Some own) (Some other) e = record e {
  sender = record e.sender { scale = Some own };
  segment = record e.segment { window = unscaled e.segment.window own; sender_shift = own; receiver_shift = other };
}

abbrev pub with_scales : TcpHeader → Exchange → Exchange
with_scales header e = if is_syn header then settled header.window_scale e.receiver.scale e else e

-- how far the sender may send behind its first segment
abbrev pub first_high : Exchange → Sequence
first_high e = plus e.segment.end (max 1 (scaled e.receiver.greatest_window e.segment.receiver_shift))

abbrev pub high_by : Sequence → Sequence → Sequence
high_by high reach = if high.0 == 1 || is_at_least reach high then reach else high

-- the sender's end is seen for the first time
unfoldable pub first_seen : Exchange → Exchange
first_seen e = record e {
  sender = record e.sender {
    state = SynSent;
    low = e.segment.sequence;
    high = high_by e.sender.high (first_high e);
    greatest_window = max e.sender.greatest_window e.segment.window;
  };
}

unfoldable pub opened : TcpHeader → Exchange → Exchange
opened header e = if has_reached SynSent e.sender.state then e else first_seen (with_scales header e)

-- the segment acknowledges nothing, or an end of which nothing was seen
abbrev pub lacks_acknowledgement : TcpHeader → Exchange → Bool
lacks_acknowledgement header e =
    not (is_ack header) || ((e.segment.acknowledgement.0 == 0 && is_rst header) || not (has_reached SynSent e.receiver.state))

unfoldable pub acknowledged : TcpHeader → Exchange → Exchange
acknowledged header e =
    if lacks_acknowledgement header e then record e { segment = record e.segment { acknowledgement = e.receiver.low } } else e

-- a segment that takes no places is taken to stand where its sender is
unfoldable pub eased : Exchange → Exchange
eased e =
    if e.segment.sequence.0 == e.segment.end.0
    then record e { segment = record e.segment { sequence = e.sender.low; end = e.sender.low; data_end = e.sender.low } }
    else e

unfoldable pub prepared : TcpPeer → TcpPeer → TcpHeader → Exchange
prepared sender receiver header = eased (acknowledged header (opened header (begun sender receiver header)))

-- ---- the window

-- the other end allows its data
abbrev pub is_below_high : Exchange → Bool
is_below_high e = is_at_least e.sender.high e.segment.data_end

-- it is no older than the window of the other end
abbrev pub is_recent : Exchange → Bool
is_recent e = is_at_least e.segment.sequence (minus e.sender.low (scaled e.receiver.greatest_window e.segment.receiver_shift))

-- what it acknowledges is at most 67035 bytes, scaled, behind what the other end has sent, or at most 67035 bytes ahead
-- of it
abbrev pub is_near : ℕ → ℕ → Bool
is_near behind shift = if nat_lt behind 2147483648 then nat_le behind (scaled 67035 shift) else nat_le (2 ^ 32 - behind) 67035

abbrev pub acknowledges_near : Exchange → Bool
acknowledges_near e = is_near (since e.receiver.low e.segment.acknowledgement) e.segment.sender_shift

unfoldable pub fits : Exchange → Bool
fits e = is_below_high e && (is_recent e && acknowledges_near e)

-- ---- what a segment that fits changes

abbrev pub low_by : Sequence → Sequence → Sequence
low_by low end = if is_at_least end low then end else low

-- how far the window reaches, and how far the other end may send by it
abbrev pub receiver_high : Exchange → Sequence
receiver_high e =
    let window = scaled e.segment.window e.segment.sender_shift in
    if is_at_least (plus e.segment.acknowledgement window) e.receiver.high
    then plus e.segment.acknowledgement (max window 1)
    else e.receiver.high

unfoldable pub moved : Exchange → Exchange
moved e = record e {
  sender = record e.sender {
    greatest_window = max e.sender.greatest_window e.segment.window;
    low = low_by e.sender.low e.segment.end;
  };
  receiver = record e.receiver { high = receiver_high e };
}

-- a SYN and a FIN raise the sender, an acknowledgement the other end, and an RST both
abbrev pub sender_state : TcpHeader → TcpPeerState → TcpPeerState
sender_state header state =
    let opening = if is_syn header then raised_to SynSent state else state in
    let closing = if is_fin header then raised_to Closing opening else opening in
    if is_rst header then TimeWait else closing

abbrev pub receiver_state : TcpHeader → TcpPeerState → TcpPeerState
receiver_state header state =
    let known = if is_ack header then acknowledged_state state else state in
    if is_rst header then TimeWait else known

unfoldable pub raised : TcpHeader → Exchange → Exchange
raised header e = record e {
  sender = record e.sender { state = sender_state header e.sender.state };
  receiver = record e.receiver { state = receiver_state header e.receiver.state };
}

-- ---- ends and timeouts

abbrev pub both : TcpPeerState → TcpPeerState → TcpPeerState → Bool
both first second state = has_reached state first && has_reached state second

abbrev pub one : TcpPeerState → TcpPeerState → TcpPeerState → Bool
one first second state = has_reached state first || has_reached state second

abbrev pub timeout_by : TcpPeerState → TcpPeerState → Timeout
timeout_by first second =
    if both first second FinWait2 then TcpClosed else
    if both first second Closing then TcpFinWait else
    if not (both first second Established) then TcpOpening else
    if one first second Closing then TcpClosing else TcpEstablished

-- a SYN that begins a new connection over one whose ends have both closed
abbrev pub begins_anew : TcpPeer → TcpPeer → TcpHeader → Bool
begins_anew sender receiver header = (is_syn header && not (is_ack header)) && both sender.state receiver.state FinWait2

-- ---- the first segment of a connection

-- the scale that it offers, which only a SYN does
abbrev pub offer : TcpHeader → Option ℕ
offer header = if is_syn header then header.window_scale else None

unfoldable pub maker : TcpHeader → TcpPeer
maker header = record {
  state = SynSent;
  low = record { 0 = header.sequence };
  high = plus (record { 0 = header.sequence }) (places header + one_if (is_fin header) + 1);
  greatest_window = unscaled (max header.window 1) (shift_of (offer header));
  scale = offer header;
}

-- the other end, of which nothing was seen
abbrev pub unseen : TcpPeer
unseen = record { state = Closed; low = record { 0 = 0 }; high = record { 0 = 1 }; greatest_window = 1; scale = None }
