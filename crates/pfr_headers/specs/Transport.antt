-- What stands behind an IPv4 header. `s` is what was captured of it, and `whole` its length by the total length.
--
-- TCP (RFC 9293, section 3.1): source port 2, destination port 2, sequence number 4, acknowledgment number 4,
-- data offset and flags 2, window 2, checksum 2, urgent pointer 2, and options up to the data offset.
-- UDP (RFC 768): source port 2, destination port 2, length 2, checksum 2.
-- ICMP (RFC 792): type 1, code 1, checksum 2, and 4 bytes more, which begin with the identifier in an echo.
use Rattle.std.specs.Prelude.{◌≡◌, ◌≢◌, ◌⊎◌, ℕ, ◌+◌, ◌*◌, ◌/◌, ◌%◌, ◌-◌, ◌≤◌, Bool, true, false, not, ◌==◌, ◌&&◌, ◌||◌, nat_lt, if◌then◌else◌, List, length, take, drop, slice_index, Option, Some, None}
use Rattle.byteorder.specs.Endian.{big_number}
use Rattle.pfr_headers.specs.declared.transport.Transport.{Transport}
use Rattle.pfr_headers.specs.declared.transport.Transport.TheVariants.{Fragment, Tcp, Udp, Icmp, Other}
use Rattle.pfr_headers.specs.declared.tcp.TcpHeader.{TcpHeader}
use Rattle.pfr_headers.specs.declared.udp.UdpHeader.{UdpHeader}
use Rattle.pfr_headers.specs.declared.icmp.IcmpHeader.{IcmpHeader}
use Rattle.pfr_headers.specs.declared.icmp.IcmpMessage.{IcmpMessage}
use Rattle.pfr_headers.specs.declared.icmp.IcmpMessage.TheVariants as message
use Rattle.pfr_headers.specs.declared.icmp.Inner.{Inner}
use Rattle.pfr_headers.specs.TcpOptions.{scale_of}

-- the TCP header's length with its options, by its data offset
abbrev pub tcp_length_of : List ℕ → ℕ
tcp_length_of s = 4 * (slice_index s 12 / 16)

abbrev pub tcp_flags_of : List ℕ → ℕ
tcp_flags_of s = slice_index s 13

-- SYN is the second of the flags. Only a packet with it offers a window scale.
abbrev pub scale_offered : List ℕ → Option ℕ
scale_offered s = if tcp_flags_of s / 2 % 2 == 1 then scale_of (take (tcp_length_of s - 20) (drop 20 s)) else None

pub record IsTcp (whole : ℕ) (s : List ℕ) (t : TcpHeader) : Type 0 where
  pub at_least : 20 ≤ tcp_length_of s
  pub captured : tcp_length_of s ≤ length s
  pub within_total : tcp_length_of s ≤ whole
  pub source : t.source.0 ≡ big_number 2 s
  pub destination : t.destination.0 ≡ big_number 2 (drop 2 s)
  pub sequence : t.sequence ≡ big_number 4 (drop 4 s)
  pub acknowledgement : t.acknowledgement ≡ big_number 4 (drop 8 s)
  pub header_length : t.header_length ≡ tcp_length_of s
  pub flags : t.flags.0 ≡ tcp_flags_of s
  pub window : t.window ≡ big_number 2 (drop 14 s)
  pub window_scale : t.window_scale ≡ scale_offered s
  pub payload_length : t.payload_length ≡ whole - tcp_length_of s

pub record IsUdp (whole : ℕ) (s : List ℕ) (u : UdpHeader) : Type 0 where
  pub captured : 8 ≤ length s
  pub within_total : 8 ≤ whole
  pub source : u.source.0 ≡ big_number 2 s
  pub destination : u.destination.0 ≡ big_number 2 (drop 2 s)
  pub payload_length : u.payload_length ≡ whole - 8

-- echo reply 0 and echo 8
abbrev pub is_echo : ℕ → Bool
is_echo kind = kind == 0 || kind == 8

-- destination unreachable 3, time exceeded 11 and parameter problem 12 carry the beginning of a packet
abbrev pub is_error : ℕ → Bool
is_error kind = kind == 3 || (kind == 11 || kind == 12)

-- the ports of such a packet; an echo's identifier stands for both
abbrev pub InnerPorts : ℕ → List ℕ → ℕ → ℕ → Type 0
InnerPorts protocol s source destination =
    (((protocol ≡ 6) ⊎ (protocol ≡ 17)) × (source ≡ big_number 2 s) × (destination ≡ big_number 2 (drop 2 s)))
    ⊎ ((protocol ≡ 1) × (is_echo (slice_index s 0) ≡ true) × (source ≡ big_number 2 (drop 4 s)) × (destination ≡ source))

-- The packet that an ICMP error embeds: `e` is what was captured behind the error's 8 bytes. Its IPv4 header
-- and 8 bytes behind it are there, and it is the first part of a TCP or UDP packet, or of an ICMP echo.
pub record IsInner (e : List ℕ) (i : Inner) : Type 0 where
  pub version : slice_index e 0 / 16 ≡ 4
  pub header_length : i.header_length ≡ 4 * (slice_index e 0 % 16)
  pub at_least : 20 ≤ 4 * (slice_index e 0 % 16)
  pub captured : 4 * (slice_index e 0 % 16) + 8 ≤ length e
  pub first : big_number 2 (drop 6 e) % 8192 ≡ 0
  pub protocol : i.protocol.0 ≡ slice_index e 9
  pub source : i.source.0 ≡ big_number 4 (drop 12 e)
  pub destination : i.destination.0 ≡ big_number 4 (drop 16 e)
  pub ports : InnerPorts (slice_index e 9) (drop (4 * (slice_index e 0 % 16)) e) i.source_port.0 i.destination_port.0

abbrev pub IsMessage : ℕ → List ℕ → IcmpMessage → Type 0
IsMessage kind s (message.Echo identifier) = (is_echo kind ≡ true) × (identifier ≡ big_number 2 (drop 4 s))
IsMessage kind s (message.Error inner) = (is_error kind ≡ true) × IsInner (drop 8 s) inner
IsMessage kind s message.Other = (is_echo kind ≡ false) × (is_error kind ≡ true → (i : Inner) → IsInner (drop 8 s) i → ⊥)

pub record IsIcmp (whole : ℕ) (s : List ℕ) (i : IcmpHeader) : Type 0 where
  pub captured : 8 ≤ length s
  pub within_total : 8 ≤ whole
  pub kind : i.kind.0 ≡ slice_index s 0
  pub code : i.code ≡ slice_index s 1
  pub message : IsMessage (slice_index s 0) s i.message

-- what stands there by the protocol's number, if it is a packet's first and only part
abbrev pub IsTransport : ℕ → Bool → ℕ → List ℕ → Transport → Type 0
IsTransport protocol fragment whole s Fragment = fragment ≡ true
IsTransport protocol fragment whole s (Tcp t) = (fragment ≡ false) × (protocol ≡ 6) × IsTcp whole s t
IsTransport protocol fragment whole s (Udp u) = (fragment ≡ false) × (protocol ≡ 17) × IsUdp whole s u
IsTransport protocol fragment whole s (Icmp i) = (fragment ≡ false) × (protocol ≡ 1) × IsIcmp whole s i
IsTransport protocol fragment whole s Other = (fragment ≡ false) × (protocol ≢ 6) × (protocol ≢ 17) × (protocol ≢ 1)

-- the same as functions; None if the header isn't there as it should be
abbrev pub has_tcp : ℕ → List ℕ → Bool
has_tcp whole s = not (nat_lt (length s) 20 || (nat_lt (tcp_length_of s) 20 || (nat_lt (length s) (tcp_length_of s) || nat_lt whole (tcp_length_of s))))

abbrev pub tcp_fields : ℕ → List ℕ → TcpHeader
tcp_fields whole s = record {
  source = record { 0 = big_number 2 s };
  destination = record { 0 = big_number 2 (drop 2 s) };
  sequence = big_number 4 (drop 4 s);
  acknowledgement = big_number 4 (drop 8 s);
  header_length = tcp_length_of s;
  flags = record { 0 = tcp_flags_of s };
  window = big_number 2 (drop 14 s);
  window_scale = scale_offered s;
  payload_length = whole - tcp_length_of s;
}

unfoldable pub tcp_of : ℕ → List ℕ → Option TcpHeader
tcp_of whole s = if has_tcp whole s then Some (tcp_fields whole s) else None

abbrev pub has_eight : ℕ → List ℕ → Bool
has_eight whole s = not (nat_lt (length s) 8 || nat_lt whole 8)

abbrev pub udp_fields : ℕ → List ℕ → UdpHeader
udp_fields whole s = record {
  source = record { 0 = big_number 2 s };
  destination = record { 0 = big_number 2 (drop 2 s) };
  payload_length = whole - 8;
}

unfoldable pub udp_of : ℕ → List ℕ → Option UdpHeader
udp_of whole s = if has_eight whole s then Some (udp_fields whole s) else None

-- a packet that an error embeds is there as far as it must be
abbrev pub has_inner : List ℕ → Bool
has_inner e = not (nat_lt (length e) 20 || (not (slice_index e 0 / 16 == 4) || (nat_lt (4 * (slice_index e 0 % 16)) 20 || (nat_lt (length e) (4 * (slice_index e 0 % 16) + 8) || not (big_number 2 (drop 6 e) % 8192 == 0)))))

abbrev pub inner_with : List ℕ → ℕ → ℕ → Inner
inner_with e source destination = record {
  header_length = 4 * (slice_index e 0 % 16);
  protocol = record { 0 = slice_index e 9 };
  source = record { 0 = big_number 4 (drop 12 e) };
  destination = record { 0 = big_number 4 (drop 16 e) };
  source_port = record { 0 = source };
  destination_port = record { 0 = destination };
}

abbrev pub inner_behind : List ℕ → List ℕ → Option Inner
inner_behind e s =
    if slice_index e 9 == 6 || slice_index e 9 == 17 then Some (inner_with e (big_number 2 s) (big_number 2 (drop 2 s))) else
    if slice_index e 9 == 1 && is_echo (slice_index s 0) then Some (inner_with e (big_number 2 (drop 4 s)) (big_number 2 (drop 4 s))) else
    None

unfoldable pub inner_of : List ℕ → Option Inner
inner_of e = if has_inner e then inner_behind e (drop (4 * (slice_index e 0 % 16)) e) else None

abbrev pub embedded_of : Option Inner → IcmpMessage
embedded_of None = message.Other
embedded_of (Some inner) = message.Error inner

unfoldable pub message_of : ℕ → List ℕ → IcmpMessage
message_of kind s =
    if is_echo kind then message.Echo (big_number 2 (drop 4 s)) else
    if is_error kind then embedded_of (inner_of (drop 8 s)) else
    message.Other

abbrev pub icmp_with : List ℕ → IcmpMessage → IcmpHeader
icmp_with s message = record { kind = record { 0 = slice_index s 0 }; code = slice_index s 1; message = message }

unfoldable pub icmp_of : ℕ → List ℕ → Option IcmpHeader
icmp_of whole s = if has_eight whole s then Some (icmp_with s (message_of (slice_index s 0) s)) else None

abbrev pub as_tcp : Option TcpHeader → Option Transport
as_tcp None = None
as_tcp (Some t) = Some (Tcp t)

abbrev pub as_udp : Option UdpHeader → Option Transport
as_udp None = None
as_udp (Some u) = Some (Udp u)

abbrev pub as_icmp : Option IcmpHeader → Option Transport
as_icmp None = None
as_icmp (Some i) = Some (Icmp i)

unfoldable pub transport_of : ℕ → Bool → ℕ → List ℕ → Option Transport
transport_of protocol fragment whole s =
    if fragment then Some Fragment else
    if protocol == 6 then as_tcp (tcp_of whole s) else
    if protocol == 17 then as_udp (udp_of whole s) else
    if protocol == 1 then as_icmp (icmp_of whole s) else
    Some Other
