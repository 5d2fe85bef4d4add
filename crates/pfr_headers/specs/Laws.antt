-- Words of the laws: what stands at an end of a packet, where a translation may write, and the checksums of what a
-- packet carries.
--
-- IPv4 (RFC 791, section 3.1): checksum at 10, source at 12, destination at 16. Behind the header: TCP (RFC 9293,
-- section 3.1): ports at 0 and 2, checksum at 16. UDP (RFC 768): ports at 0 and 2, checksum at 6. ICMP (RFC 792):
-- checksum at 2, an echo's identifier at 4, the packet that an error embeds at 8.
use Rattle.std.specs.Prelude.{◌≡◌, ◌⊎◌, ◌≤◌, ◌<◌, ℕ, ◌+◌, ◌*◌, ◌-◌, ◌^◌, List, [], ◌∷◌, take, drop, Some, None, ⊤, slice_index}
use Rattle.pfr_net.specs.declared.endpoint.Endpoint.{Endpoint}
use Rattle.pfr_headers.specs.declared.change.Change.{Change}
use Rattle.pfr_headers.specs.declared.change.End.{End}
use Rattle.pfr_headers.specs.declared.change.End.TheVariants.{Source, Destination}
use Rattle.pfr_headers.specs.declared.icmp.IcmpMessage.{IcmpMessage}
use Rattle.pfr_headers.specs.declared.icmp.IcmpMessage.TheVariants as message
use Rattle.pfr_headers.specs.declared.packet.Packet.{Packet}
use Rattle.pfr_headers.specs.declared.packet.View.TheVariants.{Ipv4}
use Rattle.pfr_headers.specs.declared.transport.Transport.{Transport}
use Rattle.pfr_headers.specs.declared.transport.Transport.TheVariants.{Fragment, Tcp, Udp, Icmp, Other}
use Rattle.pfr_headers.specs.Checksum.{AreBytes, HeaderVerifies, Verifies, mended, mended_udp, word_at}
use Rattle.pfr_headers.specs.View.{place_of, view_of}
use Rattle.pfr_headers.specs.Rewriting.{embedded_in, rewritten}
use Rattle.pfr_headers.specs.Translated.{translated}
use Rattle.pfr_headers.specs.declared.tcp.TcpHeader.{TcpHeader}
use Rattle.pfr_headers.specs.declared.udp.UdpHeader.{UdpHeader}
use Rattle.pfr_headers.specs.declared.icmp.IcmpHeader.{IcmpHeader}

-- ---- ends

-- of `source` and `destination` the one of an end, and the one of the other end
abbrev pub of_end : {A : Type 0} → End → A → A → A
of_end Source source destination = source
of_end Destination source destination = destination

abbrev pub of_other : {A : Type 0} → End → A → A → A
of_other Source source destination = destination
of_other Destination source destination = source

-- what stands at an end of a packet: its address, and its port or an echo's identifier; in an error it is what stands
-- at the other end of the packet that it embeds
abbrev pub StandsInMessage : Packet → End → Endpoint → IcmpMessage → Type 0
StandsInMessage p end to (message.Echo identifier) = to ≡ record { address = of_end end p.source p.destination; port = record { 0 = identifier } }
StandsInMessage p end to (message.Error inner) = to ≡ record { address = of_other end inner.source inner.destination; port = of_other end inner.source_port inner.destination_port }
StandsInMessage p end to message.Other = to.address ≡ of_end end p.source p.destination

abbrev pub StandsIn : Packet → End → Endpoint → Transport → Type 0
StandsIn p end to (Tcp t) = to ≡ record { address = of_end end p.source p.destination; port = of_end end t.source t.destination }
StandsIn p end to (Udp u) = to ≡ record { address = of_end end p.source p.destination; port = of_end end u.source u.destination }
StandsIn p end to (Icmp i) = StandsInMessage p end to i.message
StandsIn p end to Fragment = to.address ≡ of_end end p.source p.destination
StandsIn p end to Other = to.address ≡ of_end end p.source p.destination

-- ---- where a translation may write

-- a byte is one of `size` bytes that begin at `place`
abbrev pub IsIn : ℕ → ℕ → ℕ → Type 0
IsIn place size byte = (place ≤ byte) × (byte < place + size)

-- of the IPv4 header that begins there: the address of an end, or the checksum
abbrev pub IsOfHeader : ℕ → ℕ → ℕ → Type 0
IsOfHeader at address byte = IsIn (at + address) 4 byte ⊎ IsIn (at + 10) 2 byte

abbrev pub IsOfTcp : ℕ → ℕ → ℕ → Type 0
IsOfTcp at port byte = IsIn (at + port) 2 byte ⊎ IsIn (at + 16) 2 byte

abbrev pub IsOfUdp : ℕ → ℕ → ℕ → Type 0
IsOfUdp at port byte = IsIn (at + port) 2 byte ⊎ IsIn (at + 6) 2 byte

-- checksum and identifier
abbrev pub IsOfEcho : ℕ → ℕ → Type 0
IsOfEcho at byte = IsIn (at + 2) 4 byte

-- behind the header of a packet that an error embeds: the port, and the checksum of UDP, or what an echo has
abbrev pub IsOfEmbedded : ℕ → ℕ → ℕ → ℕ → Type 0
IsOfEmbedded protocol at port byte =
    ((protocol ≡ 6) × IsIn (at + port) 2 byte) ⊎ ((protocol ≡ 17) × IsOfUdp at port byte) ⊎ ((protocol ≡ 1) × IsOfEcho at byte)

-- of a message: an error's checksum, and the packet that it embeds at its other end
abbrev pub IsOfMessage : ℕ → End → IcmpMessage → ℕ → Type 0
IsOfMessage at end (message.Echo identifier) byte = IsOfEcho at byte
IsOfMessage at end (message.Error inner) byte =
    IsIn (at + 2) 2 byte ⊎ IsOfHeader (at + 8) (of_other end 12 16) byte ⊎ IsOfEmbedded inner.protocol.0 (at + 8 + inner.header_length) (of_other end 0 2) byte
IsOfMessage at end message.Other byte = ⊥

abbrev pub IsOfTransport : ℕ → End → Transport → ℕ → Type 0
IsOfTransport at end (Tcp t) byte = IsOfTcp at (of_end end 0 2) byte
IsOfTransport at end (Udp u) byte = IsOfUdp at (of_end end 0 2) byte
IsOfTransport at end (Icmp i) byte = IsOfMessage at end i.message byte
IsOfTransport at end Fragment byte = ⊥
IsOfTransport at end Other byte = ⊥

-- a byte of a datagram belongs to the address or the port of the end that is translated, or to a checksum over them
abbrev pub IsOfEnd : Packet → End → ℕ → Type 0
IsOfEnd p end byte = IsOfHeader 0 (of_end end 12 16) byte ⊎ IsOfTransport p.header_length end p.transport byte

-- ---- checksums

-- the sum of bytes as big-endian 16-bit words; a 0 stands behind a last byte alone (RFC 1071, section 1)
abbrev pub sum_of : List ℕ → ℕ
sum_of [] = 0
sum_of (high ∷ []) = 256 * high
sum_of (high ∷ (low ∷ bytes)) = 256 * high + low + sum_of bytes

-- what a packet carries, up to its total length
abbrev pub carried : List ℕ → Packet → List ℕ
carried d p = take (p.total_length - p.header_length) (drop p.header_length d)

-- ICMP's checksum is over the message (RFC 792)
abbrev pub message_sum : List ℕ → Packet → ℕ
message_sum d p = sum_of (carried d p)

-- TCP's and UDP's checksums are over a pseudo header too: both addresses, the protocol, and the length of what is
-- carried (RFC 9293, section 3.1; RFC 768)
abbrev pub segment_sum : List ℕ → Packet → ℕ
segment_sum d p = sum_of (take 8 (drop 12 d)) + (p.protocol.0 + (p.total_length - p.header_length)) + sum_of (carried d p)

-- the packet that an error embeds lies within the error's total length, as far as it is translated
abbrev pub CarriesEmbedded : Packet → IcmpMessage → Type 0
CarriesEmbedded p (message.Error inner) = p.header_length + 8 + inner.header_length + 8 ≤ p.total_length
CarriesEmbedded p _ = ⊤

-- a frame whose packet is translated, with the place of its datagram, and numbers as wide as their fields
pub record IsTranslated (link : ℕ) (bytes : List ℕ) (change : Change) (place : ℕ) : Type 0 where
  pub view : view_of link bytes ≡ Ipv4 change.packet
  pub begins : place_of link bytes ≡ Some place
  pub are_bytes : AreBytes bytes
  pub address : change.to.address.0 < 2 ^ 32
  pub port : change.to.port.0 < 2 ^ 16

-- ---- what the laws say

-- an IPv4 header's checksum verifies behind the rewriting if it did before
abbrev pub HeaderStillVerifies : Type 0
HeaderStillVerifies =
    (link : ℕ) (bytes : List ℕ) (change : Change) (place : ℕ)
    → view_of link bytes ≡ Ipv4 change.packet
    → place_of link bytes ≡ Some place
    → AreBytes bytes
    → change.to.address.0 < 2 ^ 32
    → HeaderVerifies place change.packet.header_length bytes
    → HeaderVerifies place change.packet.header_length (rewritten link change bytes)

-- a mended checksum verifies, unless all words come out as 0
abbrev pub MendedVerifies : Type 0
MendedVerifies =
    (rest rest' brought checksum rounds : ℕ)
    → checksum ≤ 65535
    → rest + brought ≡ rest' + 65535 * rounds
    → Verifies (rest + checksum)
    → 0 < rest' + mended checksum brought
    → Verifies (rest' + mended checksum brought)

-- a mended checksum of UDP verifies
abbrev pub MendedUdpVerifies : Type 0
MendedUdpVerifies =
    (rest rest' brought checksum rounds : ℕ)
    → checksum ≤ 65535
    → 0 < checksum
    → rest + brought ≡ rest' + 65535 * rounds
    → Verifies (rest + checksum)
    → Verifies (rest' + mended_udp checksum brought)

-- a byte that is no part of the end that is translated, or of a checksum over it, stays
abbrev pub OtherBytesStay : Type 0
OtherBytesStay =
    (link : ℕ) (bytes : List ℕ) (change : Change) (place byte : ℕ)
    → view_of link bytes ≡ Ipv4 change.packet
    → place_of link bytes ≡ Some place
    → (place ≤ byte → IsOfEnd change.packet change.end (byte - place) → ⊥)
    → slice_index (rewritten link change bytes) byte ≡ slice_index bytes byte

-- TCP's checksum verifies behind the rewriting if it did before
abbrev pub TcpStillVerifies : Type 0
TcpStillVerifies =
    (link place : ℕ) (bytes : List ℕ) (change : Change) (t : TcpHeader)
    → IsTranslated link bytes change place
    → change.packet.transport ≡ Tcp t
    → Verifies (segment_sum (drop place bytes) change.packet)
    → Verifies (segment_sum (drop place (rewritten link change bytes)) change.packet)

-- UDP's does too, if there is one
abbrev pub UdpStillVerifies : Type 0
UdpStillVerifies =
    (link place : ℕ) (bytes : List ℕ) (change : Change) (u : UdpHeader)
    → IsTranslated link bytes change place
    → change.packet.transport ≡ Udp u
    → 0 < word_at (drop place bytes) (change.packet.header_length + 6)
    → Verifies (segment_sum (drop place bytes) change.packet)
    → Verifies (segment_sum (drop place (rewritten link change bytes)) change.packet)

-- a UDP packet without a checksum has none behind the rewriting
abbrev pub NoChecksumStays : Type 0
NoChecksumStays =
    (link place : ℕ) (bytes : List ℕ) (change : Change) (u : UdpHeader)
    → IsTranslated link bytes change place
    → change.packet.transport ≡ Udp u
    → word_at (drop place bytes) (change.packet.header_length + 6) ≡ 0
    → word_at (drop place (rewritten link change bytes)) (change.packet.header_length + 6) ≡ 0

-- ICMP's does too, unless all words come out as 0
abbrev pub IcmpStillVerifies : Type 0
IcmpStillVerifies =
    (link place : ℕ) (bytes : List ℕ) (change : Change) (i : IcmpHeader)
    → IsTranslated link bytes change place
    → change.packet.transport ≡ Icmp i
    → CarriesEmbedded change.packet i.message
    → Verifies (message_sum (drop place bytes) change.packet)
    → 0 < message_sum (drop place (rewritten link change bytes)) change.packet
    → Verifies (message_sum (drop place (rewritten link change bytes)) change.packet)

-- a packet stays the same if an end is rewritten to what stands there already
abbrev pub SameEndChangesNothing : Type 0
SameEndChangesNothing =
    (link : ℕ) (bytes : List ℕ) (change : Change)
    → view_of link bytes ≡ Ipv4 change.packet
    → AreBytes bytes
    → StandsIn change.packet change.end change.to change.packet.transport
    → rewritten link change bytes ≡ bytes

-- a packet that embeds no other is, once it is rewritten, the packet behind its translation
abbrev pub RewrittenIsTranslated : Type 0
RewrittenIsTranslated =
    (link : ℕ) (bytes : List ℕ) (change : Change)
    → view_of link bytes ≡ Ipv4 change.packet
    → embedded_in change.packet.transport ≡ None
    → change.to.address.0 < 2 ^ 32
    → change.to.port.0 < 2 ^ 16
    → view_of link (rewritten link change bytes) ≡ Ipv4 (translated change.end change.to change.packet)
