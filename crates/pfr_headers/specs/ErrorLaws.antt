-- Laws of an ICMP error that embeds a packet (RFC 792), once it is translated (RFC 5508, section 4.2).
--
-- An error goes back to the source of the packet that it embeds. If the error's destination is translated, the embedded
-- packet gets a new source; if the error's source is translated, the embedded packet gets a new destination. Type and
-- code stay.
use Rattle.std.specs.Prelude.{◌≡◌, ◌≤◌, ◌<◌, ℕ, ◌+◌, ◌-◌, ◌^◌, ◌==◌, if◌then◌else◌, List, take, drop, slice_index}
use Rattle.pfr_net.specs.declared.address.Ipv4Address.{Ipv4Address}
use Rattle.pfr_net.specs.declared.endpoint.Endpoint.{Endpoint}
use Rattle.pfr_headers.specs.declared.change.Change.{Change}
use Rattle.pfr_headers.specs.declared.change.End.{End}
use Rattle.pfr_headers.specs.declared.change.End.TheVariants.{Source, Destination}
use Rattle.pfr_headers.specs.declared.icmp.IcmpHeader.{IcmpHeader}
use Rattle.pfr_headers.specs.declared.icmp.IcmpMessage.TheVariants as message
use Rattle.pfr_headers.specs.declared.icmp.Inner.{Inner}
use Rattle.pfr_headers.specs.declared.packet.Packet.{Packet}
use Rattle.pfr_headers.specs.declared.packet.View.TheVariants.{Ipv4}
use Rattle.pfr_headers.specs.declared.transport.Transport.TheVariants.{Icmp}
use Rattle.pfr_headers.specs.Checksum.{HeaderVerifies, Verifies, word_at}
use Rattle.pfr_headers.specs.Laws.{IsTranslated, sum_of}
use Rattle.pfr_headers.specs.Rewriting.{rewritten}
use Rattle.pfr_headers.specs.View.{header_length_of, total_length_of, view_of}

-- ---- the error about the translated packet

-- An embedded packet with a new source. An echo has one identifier, which stands for both of its ports.
abbrev pub sent_from : Endpoint → Inner → Inner
sent_from new inner =
    if inner.protocol.0 == 1
    then record inner { source = new.address; source_port = new.port; destination_port = new.port }
    else record inner { source = new.address; source_port = new.port }

-- an embedded packet with a new destination
abbrev pub sent_to : Endpoint → Inner → Inner
sent_to new inner =
    if inner.protocol.0 == 1
    then record inner { destination = new.address; source_port = new.port; destination_port = new.port }
    else record inner { destination = new.address; destination_port = new.port }

-- The error's own address becomes the new one too if it is the address that the embedded packet had. Else it is that of
-- a router, which reports on another host's packet, and stays.
abbrev pub goes_with : Ipv4Address → Ipv4Address → Ipv4Address → Ipv4Address
goes_with own embedded new = if own.0 == embedded.0 then new else own

-- the error about the translated packet: all else of the error and of the embedded packet is as before
abbrev pub translated_error : End → Endpoint → Packet → IcmpHeader → Inner → Packet
translated_error Destination new error icmp inner = record error {
  destination = goes_with error.destination inner.source new.address;
  transport = Icmp (record icmp { message = message.Error (sent_from new inner) });
}
translated_error Source new error icmp inner = record error {
  source = goes_with error.source inner.destination new.address;
  transport = Icmp (record icmp { message = message.Error (sent_to new inner) });
}

-- ---- the checksums of the packet that it embeds

-- the packet of a frame is an error that is translated, and the packet that it embeds begins at a place of the frame
pub record IsTranslatedError (link : ℕ) (bytes : List ℕ) (change : Change) (inner : Inner) (begins : ℕ) : Type 0 where
  pub place : ℕ
  pub translated : IsTranslated link bytes change place
  pub icmp : IcmpHeader
  pub is_icmp : change.packet.transport ≡ Icmp icmp
  pub is_error : icmp.message ≡ message.Error inner
  pub behind : begins ≡ place + change.packet.header_length + 8

-- the length of what a datagram carries, by its own header
abbrev pub carried_length : List ℕ → ℕ
carried_length d = total_length_of d - header_length_of d

-- the sum of what it carries, as far as it was captured
abbrev pub carried_sum : List ℕ → ℕ
carried_sum d = sum_of (take (carried_length d) (drop (header_length_of d) d))

-- the pseudo header of UDP (RFC 768): both addresses, the protocol, and the length of what is carried
abbrev pub pseudo_header_sum : List ℕ → ℕ
pseudo_header_sum d = sum_of (take 8 (drop 12 d)) + (slice_index d 9 + carried_length d)

-- its length has room for the 8 bytes of a UDP header or of an echo
abbrev pub CarriesEight : List ℕ → Type 0
CarriesEight d = header_length_of d + 8 ≤ total_length_of d

-- the checksum of a UDP header
abbrev pub udp_checksum_of : List ℕ → ℕ
udp_checksum_of d = word_at d (header_length_of d + 6)

-- ---- what the laws say

-- an error is seen, once it is rewritten, as the error about the translated packet
abbrev pub RewrittenErrorIsTranslated : Type 0
RewrittenErrorIsTranslated =
    (link : ℕ) (bytes : List ℕ) (change : Change) (icmp : IcmpHeader) (inner : Inner)
    → view_of link bytes ≡ Ipv4 change.packet
    → change.packet.transport ≡ Icmp icmp
    → icmp.message ≡ message.Error inner
    → change.to.address.0 < 2 ^ 32
    → change.to.port.0 < 2 ^ 16
    → view_of link (rewritten link change bytes) ≡ Ipv4 (translated_error change.end change.to change.packet icmp inner)

-- the checksum of the embedded IPv4 header verifies behind the rewriting if it did before
abbrev pub EmbeddedHeaderStillVerifies : Type 0
EmbeddedHeaderStillVerifies =
    (link : ℕ) (bytes : List ℕ) (change : Change) (inner : Inner) (begins : ℕ)
    → IsTranslatedError link bytes change inner begins
    → HeaderVerifies begins inner.header_length bytes
    → HeaderVerifies begins inner.header_length (rewritten link change bytes)

-- the checksum of an embedded UDP datagram does too, if it has one
abbrev pub EmbeddedUdpStillVerifies : Type 0
EmbeddedUdpStillVerifies =
    (link : ℕ) (bytes : List ℕ) (change : Change) (inner : Inner) (begins : ℕ)
    → IsTranslatedError link bytes change inner begins
    → inner.protocol.0 ≡ 17
    → CarriesEight (drop begins bytes)
    → 0 < udp_checksum_of (drop begins bytes)
    → Verifies (pseudo_header_sum (drop begins bytes) + carried_sum (drop begins bytes))
    → Verifies (pseudo_header_sum (drop begins (rewritten link change bytes)) + carried_sum (drop begins (rewritten link change bytes)))

-- an embedded UDP datagram without a checksum has none behind the rewriting
abbrev pub EmbeddedNoChecksumStays : Type 0
EmbeddedNoChecksumStays =
    (link : ℕ) (bytes : List ℕ) (change : Change) (inner : Inner) (begins : ℕ)
    → IsTranslatedError link bytes change inner begins
    → inner.protocol.0 ≡ 17
    → udp_checksum_of (drop begins bytes) ≡ 0
    → udp_checksum_of (drop begins (rewritten link change bytes)) ≡ 0

-- the checksum of an embedded echo does too, unless all words come out as 0
abbrev pub EmbeddedEchoStillVerifies : Type 0
EmbeddedEchoStillVerifies =
    (link : ℕ) (bytes : List ℕ) (change : Change) (inner : Inner) (begins : ℕ)
    → IsTranslatedError link bytes change inner begins
    → inner.protocol.0 ≡ 1
    → CarriesEight (drop begins bytes)
    → Verifies (carried_sum (drop begins bytes))
    → 0 < carried_sum (drop begins (rewritten link change bytes))
    → Verifies (carried_sum (drop begins (rewritten link change bytes)))
