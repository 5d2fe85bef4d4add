-- What a frame of a capture is. The IPv4 header is that of RFC 791, section 3.1:
--
--   byte 0        version, and the header's length in words of 4 bytes
--   bytes 2, 3    total length
--   bytes 6, 7    three flags, of which the last says that more fragments follow, and the fragment's offset
--   byte 9        protocol
--   bytes 12..15  source
--   bytes 16..19  destination
--
-- All numbers are big-endian.
use Rattle.std.specs.Prelude.{◌≡◌, ◌⊎◌, ℕ, ◌*◌, ◌/◌, ◌%◌, ◌-◌, ◌<◌, ◌≤◌, Bool, not, ◌==◌, ◌&&◌, ◌||◌, nat_lt, if◌then◌else◌, List, length, drop, take, slice_index, Option, Some, None}
use Rattle.byteorder.specs.Endian.{big_number, little_number}
use Rattle.pfr_headers.specs.declared.ethernet.EthernetAddress.{EthernetAddress}
use Rattle.pfr_headers.specs.declared.packet.Packet.{Packet}
use Rattle.pfr_headers.specs.declared.packet.View.{View}
use Rattle.pfr_headers.specs.declared.packet.View.TheVariants.{Ipv4, Skip, Short}
use Rattle.pfr_headers.specs.declared.transport.Transport.{Transport}
use Rattle.pfr_headers.specs.Transport.{IsTransport, transport_of}

abbrev pub version_of : List ℕ → ℕ
version_of d = slice_index d 0 / 16

abbrev pub header_length_of : List ℕ → ℕ
header_length_of d = 4 * (slice_index d 0 % 16)

abbrev pub total_length_of : List ℕ → ℕ
total_length_of d = big_number 2 (drop 2 d)

-- the flag that more fragments follow, and the offset in units of 8 bytes
abbrev pub fragment_of : List ℕ → ℕ
fragment_of d = big_number 2 (drop 6 d) % 16384

-- a packet is a fragment if more follow or if it isn't the first
abbrev pub is_fragment : List ℕ → Bool
is_fragment d = not (fragment_of d == 0)

-- a header longer than its 20 fixed bytes has options
abbrev pub has_options : Packet → Bool
has_options p = nat_lt 20 p.header_length

-- a packet's whole header stands at the front of a datagram, and the packet's fields are what it says
pub record IsHeader (d : List ℕ) (p : Packet) : Type 0 where
  pub version : version_of d ≡ 4
  pub header_length : p.header_length ≡ header_length_of d
  pub at_least : 20 ≤ header_length_of d
  pub captured : header_length_of d ≤ length d
  pub total_length : p.total_length ≡ total_length_of d
  pub within_total : header_length_of d ≤ total_length_of d
  pub protocol : p.protocol.0 ≡ slice_index d 9
  pub source : p.source.0 ≡ big_number 4 (drop 12 d)
  pub destination : p.destination.0 ≡ big_number 4 (drop 16 d)

-- the datagram's header, and behind it what its protocol has there, as far as the total length goes
pub record IsPacket (d : List ℕ) (p : Packet) : Type 0 where
  pub header : IsHeader d p
  pub transport : IsTransport (slice_index d 9) (is_fragment d) (total_length_of d - header_length_of d) (drop (header_length_of d) d) p.transport

-- Where the datagram begins in a frame. Raw IP: the frame is the datagram, and its first four bits say that
-- it is IPv4.
pub record IsRaw (link : ℕ) (bytes : List ℕ) (place : ℕ) : Type 0 where
  pub link_is : link ≡ 101
  pub some : 0 < length bytes
  pub version : version_of bytes ≡ 4
  pub place_is : place ≡ 0

-- BSD loopback: four bytes with the address family, in the byte order of the machine that captured; 2 is IPv4
pub record IsLoopback (link : ℕ) (bytes : List ℕ) (place : ℕ) : Type 0 where
  pub link_is : link ≡ 0
  pub whole : 4 ≤ length bytes
  pub family : (big_number 4 bytes ≡ 2) ⊎ (little_number 4 bytes ≡ 2)
  pub place_is : place ≡ 4

-- Ethernet: two addresses of six bytes and the type, 0x0800 for IPv4
pub record IsEthernet (link : ℕ) (bytes : List ℕ) (place : ℕ) : Type 0 where
  pub link_is : link ≡ 1
  pub whole : 14 ≤ length bytes
  pub kind : big_number 2 (drop 12 bytes) ≡ 2048
  pub place_is : place ≡ 14

-- Ethernet with one tag of IEEE 802.1Q: the type 0x8100, two bytes, and then the datagram's type
pub record IsTagged (link : ℕ) (bytes : List ℕ) (place : ℕ) : Type 0 where
  pub link_is : link ≡ 1
  pub whole : 18 ≤ length bytes
  pub tag : big_number 2 (drop 12 bytes) ≡ 33024
  pub kind : big_number 2 (drop 16 bytes) ≡ 2048
  pub place_is : place ≡ 18

-- a frame holds an IPv4 datagram, which begins at this place
abbrev pub HoldsIpv4 : ℕ → List ℕ → ℕ → Type 0
HoldsIpv4 link bytes place = IsRaw link bytes place ⊎ IsLoopback link bytes place ⊎ IsEthernet link bytes place ⊎ IsTagged link bytes place

-- The address from which a frame was sent: bytes 6 to 11 of an Ethernet frame (IEEE 802.3, clause 3.2). Frames of other
-- links have none.
unfoldable pub sender_of : ℕ → List ℕ → Option EthernetAddress
sender_of link bytes = if link == 1 && not (nat_lt (length bytes) 12) then Some (record { 0 = take 6 (drop 6 bytes) }) else None

-- What a frame is: a packet, by its sender and the headers of its datagram; one whose headers are not there as they
-- should be; or no IPv4 packet.
abbrev pub IsView : ℕ → List ℕ → View → Type 0
IsView link bytes (Ipv4 p) = (place : ℕ) × HoldsIpv4 link bytes place × IsPacket (drop place bytes) p × (p.sender ≡ sender_of link bytes)
IsView link bytes Short = (place : ℕ) × HoldsIpv4 link bytes place × ((p : Packet) → IsPacket (drop place bytes) p → ⊥)
IsView link bytes Skip = (place : ℕ) → HoldsIpv4 link bytes place → ⊥

-- the same as functions, which compute what a frame is
abbrev pub is_raw : List ℕ → Bool
is_raw bytes = nat_lt 0 (length bytes) && version_of bytes == 4

abbrev pub is_loopback : List ℕ → Bool
is_loopback bytes = not (nat_lt (length bytes) 4) && (big_number 4 bytes == 2 || little_number 4 bytes == 2)

abbrev pub is_ethernet : List ℕ → Bool
is_ethernet bytes = not (nat_lt (length bytes) 14) && big_number 2 (drop 12 bytes) == 2048

abbrev pub is_tagged : List ℕ → Bool
is_tagged bytes = not (nat_lt (length bytes) 18) && (big_number 2 (drop 12 bytes) == 33024 && big_number 2 (drop 16 bytes) == 2048)

unfoldable pub place_of : ℕ → List ℕ → Option ℕ
place_of link bytes =
    if link == 101 then (if is_raw bytes then Some 0 else None) else
    if link == 0 then (if is_loopback bytes then Some 4 else None) else
    if link == 1 then (if is_ethernet bytes then Some 14 else if is_tagged bytes then Some 18 else None) else
    None

abbrev pub has_header : List ℕ → Bool
has_header d = not (nat_lt (length d) 20 || (not (version_of d == 4) || (nat_lt (header_length_of d) 20 || (nat_lt (length d) (header_length_of d) || nat_lt (total_length_of d) (header_length_of d)))))

-- the packet of a datagram's fields, with the sender of its frame
unfoldable pub fields_of : Option EthernetAddress → List ℕ → Transport → Packet
fields_of sender d transport = record {
  sender = sender;
  header_length = header_length_of d;
  total_length = total_length_of d;
  protocol = record { 0 = slice_index d 9 };
  source = record { 0 = big_number 4 (drop 12 d) };
  destination = record { 0 = big_number 4 (drop 16 d) };
  transport = transport;
}

unfoldable pub transport_behind : List ℕ → Option Transport
transport_behind d = transport_of (slice_index d 9) (is_fragment d) (total_length_of d - header_length_of d) (drop (header_length_of d) d)

abbrev pub with_transport : Option EthernetAddress → List ℕ → Option Transport → Option Packet
with_transport sender d None = None
with_transport sender d (Some transport) = Some (fields_of sender d transport)

unfoldable pub packet_of : Option EthernetAddress → List ℕ → Option Packet
packet_of sender d = if has_header d then with_transport sender d (transport_behind d) else None

abbrev pub seen : Option Packet → View
seen None = Short
seen (Some p) = Ipv4 p

abbrev pub seen_at : ℕ → List ℕ → Option ℕ → View
seen_at link bytes None = Skip
seen_at link bytes (Some place) = seen (packet_of (sender_of link bytes) (drop place bytes))

unfoldable pub view_of : ℕ → List ℕ → View
view_of link bytes = seen_at link bytes (place_of link bytes)
