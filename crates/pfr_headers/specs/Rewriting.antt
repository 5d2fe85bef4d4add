-- How a translation rewrites a packet: which words of the datagram are written, and which checksums are mended for
-- them. Everything else stays. `d` is the datagram before.
--
-- IPv4 (RFC 791, section 3.1): checksum at 10, source at 12, destination at 16. Behind the header: TCP (RFC 9293,
-- section 3.1): ports at 0 and 2, checksum at 16. UDP (RFC 768): ports at 0 and 2, checksum at 6. Both checksums are
-- over the addresses too. ICMP (RFC 792): checksum at 2, an echo's identifier at 4, the packet that an error embeds
-- at 8.
use Rattle.std.specs.Prelude.{ℕ, ◌+◌, ◌/◌, ◌%◌, ◌==◌, if◌then◌else◌, List, [], ◌∷◌, ◌++◌, take, drop, Option, Some, None}
use Rattle.pfr_net.specs.declared.address.Ipv4Address.{Ipv4Address}
use Rattle.pfr_net.specs.declared.endpoint.Endpoint.{Endpoint}
use Rattle.pfr_net.specs.declared.port.Port.{Port}
use Rattle.pfr_headers.specs.declared.change.Change.{Change}
use Rattle.pfr_headers.specs.declared.change.End.{End}
use Rattle.pfr_headers.specs.declared.change.End.TheVariants.{Source, Destination}
use Rattle.pfr_headers.specs.declared.icmp.IcmpMessage.{IcmpMessage}
use Rattle.pfr_headers.specs.declared.icmp.IcmpMessage.TheVariants as message
use Rattle.pfr_headers.specs.declared.icmp.Inner.{Inner}
use Rattle.pfr_headers.specs.declared.packet.Packet.{Packet}
use Rattle.pfr_headers.specs.declared.transport.Transport.{Transport}
use Rattle.pfr_headers.specs.declared.transport.Transport.TheVariants.{Tcp, Udp, Icmp}
use Rattle.pfr_headers.specs.Checksum.{Word, difference, difference_of, mended, mended_udp, with_words, word, word_at}
use Rattle.pfr_headers.specs.View.{place_of}

abbrev pub other_end : End → End
other_end Source = Destination
other_end Destination = Source

-- where an end's address stands in an IPv4 header, and its port in a TCP or UDP header
abbrev pub address_place : End → ℕ
address_place Source = 12
address_place Destination = 16

abbrev pub port_place : End → ℕ
port_place Source = 0
port_place Destination = 2

-- the two words of an address
abbrev pub address_words : ℕ → Ipv4Address → List Word
address_words place address = word place (address.0 / 65536) ∷ (word (place + 2) (address.0 % 65536) ∷ [])

-- an address of the header that begins at a place, with that header's checksum
unfoldable pub header_words : List ℕ → ℕ → End → Ipv4Address → List Word
header_words d header end address =
    address_words (header + address_place end) address
    ++ (word (header + 10) (mended (word_at d (header + 10)) (difference_of d (address_words (header + address_place end) address))) ∷ [])

-- a port of the TCP header that begins at `at`, with its checksum, to which the addresses add `addresses`
unfoldable pub tcp_words : List ℕ → ℕ → End → ℕ → Port → List Word
tcp_words d at end addresses port =
    word (at + port_place end) port.0
    ∷ (word (at + 16) (mended (word_at d (at + 16)) (addresses + difference (word_at d (at + port_place end)) port.0)) ∷ [])

-- a port of the UDP header that begins there, likewise
unfoldable pub udp_words : List ℕ → ℕ → End → ℕ → Port → List Word
udp_words d at end addresses port =
    word (at + port_place end) port.0
    ∷ (word (at + 6) (mended_udp (word_at d (at + 6)) (addresses + difference (word_at d (at + port_place end)) port.0)) ∷ [])

-- the identifier of the echo that begins there, whose checksum is not over the addresses
unfoldable pub echo_words : List ℕ → ℕ → Port → List Word
echo_words d at identifier =
    word (at + 4) identifier.0
    ∷ (word (at + 2) (mended (word_at d (at + 2)) (difference (word_at d (at + 4)) identifier.0)) ∷ [])

-- behind the header of a packet that an error embeds; a TCP checksum there stays, it may not have been captured
unfoldable pub embedded_words : List ℕ → ℕ → ℕ → End → ℕ → Port → List Word
embedded_words d protocol at end addresses port =
    if protocol == 6 then word (at + port_place end) port.0 ∷ [] else
    if protocol == 17 then udp_words d at end addresses port else
    echo_words d at port

-- the packet that an error embeds, whose header begins at a place
unfoldable pub inner_words : List ℕ → ℕ → Inner → End → Endpoint → List Word
inner_words d at inner end to =
    header_words d at end to.address
    ++ embedded_words d inner.protocol.0 (at + inner.header_length) end (difference_of d (address_words (at + address_place end) to.address)) to.port

-- the address at one end
abbrev pub end_address : End → Ipv4Address → Ipv4Address → Ipv4Address
end_address Source source destination = source
end_address Destination source destination = destination

-- the error's own header, if it has the address of the end that is translated
unfoldable pub outer_words : List ℕ → Packet → Inner → End → Endpoint → List Word
outer_words d p inner end to =
    if (end_address end p.source p.destination).0 == (end_address (other_end end) inner.source inner.destination).0
    then header_words d 0 end to.address
    else []

-- An error carries the packet of the other direction, so that one is translated at its other end. The checksum of
-- the error is over all that it carries, the mended checksums in it too.
unfoldable pub error_words : List ℕ → Packet → Inner → End → Endpoint → List Word
error_words d p inner end to =
    inner_words d (p.header_length + 8) inner (other_end end) to
    ++ (word (p.header_length + 2) (mended (word_at d (p.header_length + 2)) (difference_of d (inner_words d (p.header_length + 8) inner (other_end end) to)))
    ∷ outer_words d p inner end to)

abbrev pub echo_or_none : List ℕ → ℕ → Port → IcmpMessage → List Word
echo_or_none d at port (message.Echo identifier) = echo_words d at port
echo_or_none d at port _ = []

-- what is behind the header of any other packet
abbrev pub behind_words : List ℕ → ℕ → End → ℕ → Port → Transport → List Word
behind_words d at end addresses port (Tcp t) = tcp_words d at end addresses port
behind_words d at end addresses port (Udp u) = udp_words d at end addresses port
behind_words d at end addresses port (Icmp i) = echo_or_none d at port i.message
behind_words d at end addresses port _ = []

unfoldable pub packet_words : List ℕ → Packet → End → Endpoint → List Word
packet_words d p end to =
    header_words d 0 end to.address
    ++ behind_words d p.header_length end (difference_of d (address_words (address_place end) to.address)) to.port p.transport

-- the packet that an error embeds
abbrev pub embedded_by : IcmpMessage → Option Inner
embedded_by (message.Error inner) = Some inner
embedded_by _ = None

abbrev pub embedded_in : Transport → Option Inner
embedded_in (Icmp i) = embedded_by i.message
embedded_in _ = None

-- all words that a change writes into its packet's datagram
abbrev pub words_for : List ℕ → Change → Option Inner → List Word
words_for d change (Some inner) = error_words d change.packet inner change.end change.to
words_for d change None = packet_words d change.packet change.end change.to

unfoldable pub words_of : List ℕ → Change → List Word
words_of d change = words_for d change (embedded_in change.packet.transport)

abbrev pub rewritten_at : Change → List ℕ → Option ℕ → List ℕ
rewritten_at change bytes None = bytes
rewritten_at change bytes (Some place) = take place bytes ++ with_words (words_of (drop place bytes) change) (drop place bytes)

-- a frame after the change: what stands before its datagram stays
unfoldable pub rewritten : ℕ → Change → List ℕ → List ℕ
rewritten link change bytes = rewritten_at change bytes (place_of link bytes)
