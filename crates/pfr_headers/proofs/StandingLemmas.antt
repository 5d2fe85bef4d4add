-- A packet that is rewritten to what stands there is the same.
use Rattle.std.specs.Prelude.{⊤}
use Rattle.std.proofs.Common.{◌≡◌, inl, inr, ◌≤◌, ◌<◌, ◌-◌, ◌+◌, ◌*◌, ◌/◌, ◌%◌, ◌++◌, ℕ, Bool, true, false, eqb, List, [], ◌∷◌, length, take, drop, slice_index, Option, Some, None, refl, sym, ◌∙◌, ap, subst, arith}
use Rattle.std.proofs.lemmas.Bool.{eq-eqb, eqb-true}
use Rattle.std.proofs.lemmas.List.{drop-drop, get_or-drop, length-drop, take-append-drop}
use Rattle.byteorder.specs.Endian.{big_bytes, big_number}
use Rattle.pfr_net.specs.declared.address.Ipv4Address.{Ipv4Address}
use Rattle.pfr_net.specs.declared.endpoint.Endpoint.{Endpoint}
use Rattle.pfr_net.specs.declared.port.Port.{Port}
use Rattle.pfr_headers.specs.declared.change.Change.{Change}
use Rattle.pfr_headers.specs.declared.change.End.{End}
use Rattle.pfr_headers.specs.declared.change.End.TheVariants.{Source, Destination}
use Rattle.pfr_headers.specs.declared.icmp.IcmpMessage.{IcmpMessage}
use Rattle.pfr_headers.specs.declared.icmp.IcmpMessage.TheVariants as message
use Rattle.pfr_headers.specs.declared.icmp.Inner.{Inner}
use Rattle.pfr_headers.specs.declared.packet.Packet.{Packet}
use Rattle.pfr_headers.specs.declared.packet.View.TheVariants.{Ipv4}
use Rattle.pfr_headers.specs.declared.transport.Transport.{Transport}
use Rattle.pfr_headers.specs.declared.transport.Transport.TheVariants.{Fragment, Tcp, Udp, Icmp, Other}
use Rattle.pfr_headers.specs.Checksum.{AreBytes, Word, difference, difference_of, mended, mended_udp, with_word, with_words, word, word_at}
use Rattle.pfr_headers.specs.Laws.{StandsIn, StandsInMessage, of_end, of_other}
use Rattle.pfr_headers.specs.Rewriting.{address_place, address_words, behind_words, echo_or_none, echo_words, end_address, error_words, header_words, inner_words, other_end, outer_words, packet_words, port_place, rewritten, tcp_words, embedded_by, embedded_in, embedded_words, udp_words, words_for, words_of}
use Rattle.pfr_headers.specs.Transport.{InnerPorts, IsIcmp, IsInner, IsMessage, IsTcp, IsTransport, IsUdp}
use Rattle.pfr_headers.specs.View.{header_length_of, is_fragment, packet_of, place_of, total_length_of, view_of}
use Rattle.pfr_headers.proofs.ChecksumLemmas.{one_at_least}
use Rattle.pfr_headers.proofs.FieldLemmas.{words_lie}
use Rattle.pfr_headers.proofs.RewritingLemmas.{inner_there, packet_there}
use Rattle.pfr_headers.proofs.TransportLemmas.{same_some}
use Rattle.pfr_headers.proofs.VerifyingLemmas.{bytes_behind, word_small}
use Rattle.pfr_headers.proofs.ViewLemmas.{packet_by}
use Rattle.pfr_headers.proofs.WordLemmas.{AllWithin}

-- ---- words that are written as they stand

pair_back : (a b : ℕ) → a < 256 → b < 256 → big_bytes 2 (a * 256 + (b * 1 + 0)) ≡ a ∷ (b ∷ [])
pair_back a b small_a small_b =
    let high : (a * 256 + (b * 1 + 0)) / 256 % 256 ≡ a = omega arith in
    let low : (a * 256 + (b * 1 + 0)) % 256 ≡ b = omega arith in
    rw (high, low) refl

front_same : (bytes : List ℕ) → AreBytes bytes → 2 ≤ length bytes → big_bytes 2 (big_number 2 bytes) ++ drop 2 bytes ≡ bytes
front_same [] are long = absurd (omega arith)
front_same (a ∷ []) are long = absurd (omega arith)
front_same (a ∷ (b ∷ rest)) are long = ap (λ (t : List ℕ). t ++ rest) (pair_back a b (are 0) (are 1))

word_same : (place : ℕ) (bytes : List ℕ) → AreBytes bytes → place + 2 ≤ length bytes → with_word (word place (word_at bytes place)) bytes ≡ bytes
unfolding with_word
word_same place bytes are within =
    let behind : drop (place + 2) bytes ≡ drop 2 (drop place bytes) = sym (drop-drop 2 place bytes ∙ ap (λ (n : ℕ). drop n bytes) (omega arith)) in
    let front = front_same (drop place bytes) (bytes_behind place bytes are) (omega (arith, length-drop place bytes)) in
    rw behind (ap (λ (t : List ℕ). take place bytes ++ t) front ∙ take-append-drop place bytes)

abbrev pub AllStand : List ℕ → List Word → Type 0
AllStand bytes [] = ⊤
AllStand bytes (w ∷ ws) = (w.value ≡ word_at bytes w.place) × AllStand bytes ws

pub words_same : (ws : List Word) (bytes : List ℕ) → AreBytes bytes → AllWithin (length bytes) ws → AllStand bytes ws → with_words ws bytes ≡ bytes
words_same [] bytes are within stand = refl
words_same (w ∷ ws) bytes are within stand =
    let first : with_word w bytes ≡ bytes = ap (λ (v : ℕ). with_word (word w.place v) bytes) stand.0 ∙ word_same w.place bytes are within.0 in
    ap (λ (t : List ℕ). with_words ws t) first ∙ words_same ws bytes are within.1 stand.1

pub stand_append : (bytes : List ℕ) (xs ys : List Word) → AllStand bytes xs → AllStand bytes ys → AllStand bytes (xs ++ ys)
stand_append bytes [] ys a b = b
stand_append bytes (x ∷ xs) ys a b = (a.0, stand_append bytes xs ys a.1 b)

-- they bring nothing
pub no_difference : (old new : ℕ) → new ≡ old → difference old new ≡ 0
no_difference old new is = rw (is, eq-eqb old old refl) refl

pub nothing_brought : (bytes : List ℕ) (ws : List Word) → AllStand bytes ws → difference_of bytes ws ≡ 0
nothing_brought bytes [] stand = refl
nothing_brought bytes (w ∷ ws) stand = omega (arith, no_difference (word_at bytes w.place) w.value stand.0, nothing_brought bytes ws stand.1)

-- and a checksum that is mended for nothing stays
mended_by : (checksum : ℕ) (none : Bool) → eqb (65535 - checksum + 0) 0 ≡ none → checksum ≤ 65535 → mended checksum 0 ≡ checksum
unfolding mended
mended_by checksum true is within = let e = eqb-true (65535 - checksum + 0) 0 is in rw is (omega arith)
mended_by checksum false is within = let some = one_at_least (65535 - checksum + 0) is in rw is (omega arith)

pub mended_same : (checksum brought : ℕ) → checksum ≤ 65535 → brought ≡ 0 → mended checksum brought ≡ checksum
mended_same checksum brought within none = rw none (mended_by checksum _ refl within)

udp_by : (checksum : ℕ) (none : Bool) → eqb checksum 0 ≡ none → checksum ≤ 65535 → mended_udp checksum 0 ≡ checksum
unfolding mended_udp
udp_by checksum true is within = let e = eqb-true checksum 0 is in rw is (sym e)
udp_by checksum false is within = rw (is, mended_same checksum 0 within refl, is) refl

pub udp_same : (checksum brought : ℕ) → checksum ≤ 65535 → brought ≡ 0 → mended_udp checksum brought ≡ checksum
udp_same checksum brought within none = rw none (udp_by checksum _ refl within)

-- ---- an address

-- the two words of four bytes
four_bytes : (a b c d : ℕ) → b < 256 → c < 256 → d < 256 → ((a * 16777216 + (b * 65536 + (c * 256 + (d * 1 + 0)))) / 65536 ≡ a * 256 + (b * 1 + 0)) × ((a * 16777216 + (b * 65536 + (c * 256 + (d * 1 + 0)))) % 65536 ≡ c * 256 + (d * 1 + 0))
four_bytes a b c d small_b small_c small_d =
    let low : c * 256 + (d * 1 + 0) < 65536 = omega arith in
    let whole : a * 16777216 + (b * 65536 + (c * 256 + (d * 1 + 0))) ≡ 65536 * (a * 256 + (b * 1 + 0)) + (c * 256 + (d * 1 + 0)) = omega arith in
    (rw whole (omega arith), rw whole (omega arith))

high_word : (bytes : List ℕ) (place : ℕ) → AreBytes bytes → big_number 4 (drop place bytes) / 65536 ≡ word_at bytes place
high_word bytes place are =
    let small : AreBytes (drop place bytes) = bytes_behind place bytes are in
    (four_bytes (slice_index (drop place bytes) 0) (slice_index (drop place bytes) 1) (slice_index (drop place bytes) 2) (slice_index (drop place bytes) 3) (small 1) (small 2) (small 3)).0

low_word : (bytes : List ℕ) (place : ℕ) → AreBytes bytes → big_number 4 (drop place bytes) % 65536 ≡ word_at bytes (place + 2)
low_word bytes place are =
    let small : AreBytes (drop place bytes) = bytes_behind place bytes are in
    let third : slice_index (drop place bytes) 2 ≡ slice_index (drop (place + 2) bytes) 0 = get_or-drop place bytes 2 0 ∙ ap (λ (n : ℕ). slice_index bytes n) (omega arith) ∙ sym (get_or-drop (place + 2) bytes 0 0) in
    let fourth : slice_index (drop place bytes) 3 ≡ slice_index (drop (place + 2) bytes) 1 = get_or-drop place bytes 3 0 ∙ ap (λ (n : ℕ). slice_index bytes n) (omega arith) ∙ sym (get_or-drop (place + 2) bytes 1 0) in
    let low = (four_bytes (slice_index (drop place bytes) 0) (slice_index (drop place bytes) 1) (slice_index (drop place bytes) 2) (slice_index (drop place bytes) 3) (small 1) (small 2) (small 3)).1 in
    omega (arith, low, third, fourth)

address_stands : (bytes : List ℕ) (place : ℕ) (address : Ipv4Address) → AreBytes bytes → address.0 ≡ big_number 4 (drop place bytes) → AllStand bytes (address_words place address)
address_stands bytes place address are is = (ap (λ (n : ℕ). n / 65536) is ∙ high_word bytes place are, (ap (λ (n : ℕ). n % 65536) is ∙ low_word bytes place are, record {}))

header_stands : (bytes : List ℕ) (at : ℕ) (end : End) (address : Ipv4Address) → AreBytes bytes → address.0 ≡ big_number 4 (drop (at + address_place end) bytes) → AllStand bytes (header_words bytes at end address)
unfolding header_words
header_stands bytes at end address are is =
    let stands = address_stands bytes (at + address_place end) address are is in
    let brought = difference_of bytes (address_words (at + address_place end) address) in
    stand_append bytes (address_words (at + address_place end) address) (word (at + 10) (mended (word_at bytes (at + 10)) brought) ∷ []) stands
    (mended_same (word_at bytes (at + 10)) brought (word_small (at + 10) bytes are) (nothing_brought bytes (address_words (at + address_place end) address) stands), record {})

-- ---- ports and checksums

tcp_stands : (bytes : List ℕ) (at : ℕ) (end : End) (addresses : ℕ) (port : Port) → AreBytes bytes → addresses ≡ 0 → port.0 ≡ word_at bytes (at + port_place end) → AllStand bytes (tcp_words bytes at end addresses port)
unfolding tcp_words
tcp_stands bytes at end addresses port are none is =
    (is, (mended_same (word_at bytes (at + 16)) _ (word_small (at + 16) bytes are) (omega (arith, none, no_difference (word_at bytes (at + port_place end)) port.0 is)), record {}))

udp_stands : (bytes : List ℕ) (at : ℕ) (end : End) (addresses : ℕ) (port : Port) → AreBytes bytes → addresses ≡ 0 → port.0 ≡ word_at bytes (at + port_place end) → AllStand bytes (udp_words bytes at end addresses port)
unfolding udp_words
udp_stands bytes at end addresses port are none is =
    (is, (udp_same (word_at bytes (at + 6)) _ (word_small (at + 6) bytes are) (omega (arith, none, no_difference (word_at bytes (at + port_place end)) port.0 is)), record {}))

echo_stands : (bytes : List ℕ) (at : ℕ) (port : Port) → AreBytes bytes → port.0 ≡ word_at bytes (at + 4) → AllStand bytes (echo_words bytes at port)
unfolding echo_words
echo_stands bytes at port are is = (is, (mended_same (word_at bytes (at + 2)) _ (word_small (at + 2) bytes are) (no_difference (word_at bytes (at + 4)) port.0 is), record {}))

-- the word at a place of what stands behind another
pub word_behind : (from place : ℕ) (bytes : List ℕ) → big_number 2 (drop place (drop from bytes)) ≡ word_at bytes (from + place)
word_behind from place bytes = ap (λ (t : List ℕ). big_number 2 t) (drop-drop place from bytes)

number_behind : (from place : ℕ) (bytes : List ℕ) → big_number 4 (drop place (drop from bytes)) ≡ big_number 4 (drop (from + place) bytes)
number_behind from place bytes = ap (λ (t : List ℕ). big_number 4 t) (drop-drop place from bytes)

-- the port of an end
port_stands : (bytes : List ℕ) (from : ℕ) (end : End) (source destination port : Port) → port ≡ of_end end source destination → source.0 ≡ big_number 2 (drop from bytes) → destination.0 ≡ big_number 2 (drop 2 (drop from bytes)) → port.0 ≡ word_at bytes (from + port_place end)
port_stands bytes from Source source destination port is first second = ap (λ (p : Port). p.0) is ∙ first ∙ ap (λ (n : ℕ). word_at bytes n) (omega arith)
port_stands bytes from Destination source destination port is first second = ap (λ (p : Port). p.0) is ∙ second ∙ word_behind from 2 bytes

address_at : (bytes : List ℕ) (at : ℕ) (end : End) (source destination address : Ipv4Address) → address ≡ of_end end source destination → source.0 ≡ big_number 4 (drop (at + 12) bytes) → destination.0 ≡ big_number 4 (drop (at + 16) bytes) → address.0 ≡ big_number 4 (drop (at + address_place end) bytes)
address_at bytes at Source source destination address is first second = ap (λ (a : Ipv4Address). a.0) is ∙ first
address_at bytes at Destination source destination address is first second = ap (λ (a : Ipv4Address). a.0) is ∙ second

-- ---- a packet that embeds no other

own_header : (d : List ℕ) (p : Packet) (end : End) (address : Ipv4Address) → packet_of p.sender d ≡ Some p → AreBytes d → address ≡ of_end end p.source p.destination → AllStand d (header_words d 0 end address)
own_header d p end address there are is =
    let h = (packet_by d p there).header in
    header_stands d 0 end address are (address_at d 0 end p.source p.destination address is h.source h.destination)

own_addresses : (d : List ℕ) (p : Packet) (end : End) (address : Ipv4Address) → packet_of p.sender d ≡ Some p → AreBytes d → address ≡ of_end end p.source p.destination → difference_of d (address_words (address_place end) address) ≡ 0
own_addresses d p end address there are is =
    let h = (packet_by d p there).header in
    let place : 0 + address_place end ≡ address_place end = omega arith in
    subst (λ (m : ℕ). difference_of d (address_words m address) ≡ 0) place
    (nothing_brought d (address_words (0 + address_place end) address) (address_stands d (0 + address_place end) address are (address_at d 0 end p.source p.destination address is h.source h.destination)))

abbrev Behind : List ℕ → Transport → Type 0
Behind d t = IsTransport (slice_index d 9) (is_fragment d) (total_length_of d - header_length_of d) (drop (header_length_of d) d) t

echo_or_none_stands : (d : List ℕ) (p : Packet) (end : End) (to : Endpoint) (m : IcmpMessage) (kind : ℕ) → AreBytes d → IsMessage kind (drop p.header_length d) m → embedded_by m ≡ None → StandsInMessage p end to m → AllStand d (echo_or_none d p.header_length to.port m)
echo_or_none_stands d p end to (message.Echo identifier) kind are is none stands =
    echo_stands d p.header_length to.port are (ap (λ (e : Endpoint). e.port.0) stands ∙ is.1 ∙ word_behind p.header_length 4 d)
echo_or_none_stands d p end to (message.Error inner) kind are is none stands = record {}
echo_or_none_stands d p end to message.Other kind are is none stands = record {}

behind_stands : (d : List ℕ) (p : Packet) (end : End) (addresses : ℕ) (to : Endpoint) (t : Transport) → AreBytes d → p.header_length ≡ header_length_of d → Behind d t → embedded_in t ≡ None → addresses ≡ 0 → StandsIn p end to t → AllStand d (behind_words d p.header_length end addresses to.port t)
behind_stands d p end addresses to Fragment are same is none nothing stands = record {}
behind_stands d p end addresses to (Tcp t) are same is none nothing stands =
    let tcp = subst (λ (n : ℕ). IsTcp (total_length_of d - header_length_of d) (drop n d) t) (sym same) is.2 in
    tcp_stands d p.header_length end addresses to.port are nothing (port_stands d p.header_length end t.source t.destination to.port (ap (λ (e : Endpoint). e.port) stands) tcp.source tcp.destination)
behind_stands d p end addresses to (Udp u) are same is none nothing stands =
    let udp = subst (λ (n : ℕ). IsUdp (total_length_of d - header_length_of d) (drop n d) u) (sym same) is.2 in
    udp_stands d p.header_length end addresses to.port are nothing (port_stands d p.header_length end u.source u.destination to.port (ap (λ (e : Endpoint). e.port) stands) udp.source udp.destination)
behind_stands d p end addresses to (Icmp i) are same is none nothing stands =
    let icmp = subst (λ (n : ℕ). IsIcmp (total_length_of d - header_length_of d) (drop n d) i) (sym same) is.2 in
    echo_or_none_stands d p end to i.message (slice_index (drop p.header_length d) 0) are icmp.message none stands
behind_stands d p end addresses to Other are same is none nothing stands = record {}

-- such a packet has its own address at the end
own_message : (p : Packet) (end : End) (to : Endpoint) (m : IcmpMessage) → embedded_by m ≡ None → StandsInMessage p end to m → to.address ≡ of_end end p.source p.destination
own_message p end to (message.Echo identifier) none stands = ap (λ (e : Endpoint). e.address) stands
own_message p end to (message.Error inner) none stands = absurd (cc)
own_message p end to message.Other none stands = stands

own_address : (p : Packet) (end : End) (to : Endpoint) (t : Transport) → embedded_in t ≡ None → StandsIn p end to t → to.address ≡ of_end end p.source p.destination
own_address p end to Fragment none stands = stands
own_address p end to (Tcp t) none stands = ap (λ (e : Endpoint). e.address) stands
own_address p end to (Udp u) none stands = ap (λ (e : Endpoint). e.address) stands
own_address p end to (Icmp i) none stands = own_message p end to i.message none stands
own_address p end to Other none stands = stands

packet_stands : (d : List ℕ) (p : Packet) (end : End) (to : Endpoint) → packet_of p.sender d ≡ Some p → AreBytes d → embedded_in p.transport ≡ None → StandsIn p end to p.transport → AllStand d (packet_words d p end to)
unfolding packet_words
packet_stands d p end to there are none stands =
    let all = packet_by d p there in
    let address = own_address p end to p.transport none stands in
    stand_append d (header_words d 0 end to.address) _ (own_header d p end to.address there are address)
    (behind_stands d p end _ to p.transport are all.header.header_length all.transport none (own_addresses d p end to.address there are address) stands)

-- ---- an error

same_port : (end : End) (port : Port) (source destination : ℕ) → port.0 ≡ of_end end source destination → port ≡ of_end end (record { 0 = source }) (record { 0 = destination })
same_port Source port source destination is = ap (λ (n : ℕ). record { 0 = n }) is
same_port Destination port source destination is = ap (λ (n : ℕ). record { 0 = n }) is

both : (end : End) (source destination : ℕ) → destination ≡ source → of_end end source destination ≡ source
both Source source destination same = refl
both Destination source destination same = same

embedded_stands : (d : List ℕ) (at : ℕ) (end : End) (s : ℕ) (port : Port) (protocol source destination : ℕ) → AreBytes d → s ≡ 0 → InnerPorts protocol (drop at d) source destination → port.0 ≡ of_end end source destination → AllStand d (embedded_words d protocol at end s port)
unfolding embedded_words
embedded_stands d at end s port protocol source destination are nothing (inl (inl is, first, second)) stands =
    subst (λ (n : ℕ). AllStand d (embedded_words d n at end s port)) (sym is) (port_stands d at end (record { 0 = source }) (record { 0 = destination }) port (same_port end port source destination stands) first second, record {})
embedded_stands d at end s port protocol source destination are nothing (inl (inr is, first, second)) stands =
    subst (λ (n : ℕ). AllStand d (embedded_words d n at end s port)) (sym is) (udp_stands d at end s port are nothing (port_stands d at end (record { 0 = source }) (record { 0 = destination }) port (same_port end port source destination stands) first second))
embedded_stands d at end s port protocol source destination are nothing (inr (is, kind, first, second)) stands =
    subst (λ (n : ℕ). AllStand d (embedded_words d n at end s port)) (sym is) (echo_stands d at port are (stands ∙ both end source destination second ∙ first ∙ word_behind at 4 d))

number_at : (end : End) (source destination : Port) → (of_end end source destination).0 ≡ of_end end source.0 destination.0
number_at Source source destination = refl
number_at Destination source destination = refl

other_address : (end : End) (source destination : Ipv4Address) → of_end (other_end end) source destination ≡ of_other end source destination
other_address Source source destination = refl
other_address Destination source destination = refl

other_port : (end : End) (source destination : Port) → of_end (other_end end) source destination ≡ of_other end source destination
other_port Source source destination = refl
other_port Destination source destination = refl

-- the error's own end is written if it has the address of the end that is translated
outer_address : (end : End) (source destination first second : Ipv4Address) → (end_address end source destination).0 ≡ (end_address (other_end end) first second).0 → of_other end first second ≡ of_end end source destination
outer_address Source source destination first second same = ap (λ (n : ℕ). record { 0 = n }) (sym same)
outer_address Destination source destination first second same = ap (λ (n : ℕ). record { 0 = n }) (sym same)

-- what an error carries, from its own place on
inner_stands : (d : List ℕ) (at : ℕ) (inner : Inner) (end : End) (to : Endpoint) → AreBytes d → IsInner (drop at d) inner → to.address ≡ of_end end inner.source inner.destination → to.port ≡ of_end end inner.source_port inner.destination_port → AllStand d (inner_words d at inner end to)
unfolding inner_words
inner_stands d at inner end to are is address port =
    let behind : drop (4 * (slice_index (drop at d) 0 % 16)) (drop at d) ≡ drop (at + inner.header_length) d = drop-drop (4 * (slice_index (drop at d) 0 % 16)) at d ∙ ap (λ (n : ℕ). drop (at + n) d) (sym is.header_length) in
    let ports : InnerPorts inner.protocol.0 (drop (at + inner.header_length) d) inner.source_port.0 inner.destination_port.0 =
    subst (λ (t : List ℕ). InnerPorts inner.protocol.0 t inner.source_port.0 inner.destination_port.0) behind
    (subst (λ (n : ℕ). InnerPorts n (drop (4 * (slice_index (drop at d) 0 % 16)) (drop at d)) inner.source_port.0 inner.destination_port.0) (sym is.protocol) is.ports) in
    let own = address_at d at end inner.source inner.destination to.address address (is.source ∙ number_behind at 12 d) (is.destination ∙ number_behind at 16 d) in
    let nothing = nothing_brought d (address_words (at + address_place end) to.address) (address_stands d (at + address_place end) to.address are own) in
    stand_append d (header_words d at end to.address) _ (header_stands d at end to.address are own)
    (embedded_stands d (at + inner.header_length) end _ to.port inner.protocol.0 inner.source_port.0 inner.destination_port.0 are nothing ports (ap (λ (p : Port). p.0) port ∙ number_at end inner.source_port inner.destination_port))

outer_stands : (d : List ℕ) (p : Packet) (inner : Inner) (end : End) (to : Endpoint) (same : Bool) → eqb (end_address end p.source p.destination).0 (end_address (other_end end) inner.source inner.destination).0 ≡ same → packet_of p.sender d ≡ Some p → AreBytes d → to.address ≡ of_other end inner.source inner.destination → AllStand d (outer_words d p inner end to)
unfolding outer_words
outer_stands d p inner end to true e there are address =
    rw e (own_header d p end to.address there are (address ∙ outer_address end p.source p.destination inner.source inner.destination (eqb-true _ _ e)))
outer_stands d p inner end to false e there are address = rw e (record {})

error_stands : (d : List ℕ) (p : Packet) (inner : Inner) (end : End) (to : Endpoint) → packet_of p.sender d ≡ Some p → AreBytes d → embedded_in p.transport ≡ Some inner → to.address ≡ of_other end inner.source inner.destination → to.port ≡ of_other end inner.source_port inner.destination_port → AllStand d (error_words d p inner end to)
unfolding error_words
error_stands d p inner end to there are embedded address port =
    let h = (packet_by d p there).header in
    let e : drop 8 (drop (header_length_of d) d) ≡ drop (p.header_length + 8) d = drop-drop 8 (header_length_of d) d ∙ ap (λ (n : ℕ). drop (n + 8) d) (sym h.header_length) in
    let is = subst (λ (t : List ℕ). IsInner t inner) e (inner_there d p inner there embedded) in
    let carried = inner_words d (p.header_length + 8) inner (other_end end) to in
    let stands = inner_stands d (p.header_length + 8) inner (other_end end) to are is (address ∙ sym (other_address end inner.source inner.destination)) (port ∙ sym (other_port end inner.source_port inner.destination_port)) in
    stand_append d carried (word (p.header_length + 2) (mended (word_at d (p.header_length + 2)) (difference_of d carried)) ∷ outer_words d p inner end to) stands
    (mended_same (word_at d (p.header_length + 2)) (difference_of d carried) (word_small (p.header_length + 2) d are) (nothing_brought d carried stands), outer_stands d p inner end to _ refl there are address)

-- ---- the frame

in_message : (p : Packet) (end : End) (to : Endpoint) (m : IcmpMessage) (inner : Inner) → embedded_by m ≡ Some inner → StandsInMessage p end to m → to ≡ record { address = of_other end inner.source inner.destination; port = of_other end inner.source_port inner.destination_port }
in_message p end to (message.Echo identifier) inner embedded stands = absurd (cc)
in_message p end to (message.Error carried) inner embedded stands = stands ∙ ap (λ (i : Inner). record { address = of_other end i.source i.destination; port = of_other end i.source_port i.destination_port }) (same_some carried inner embedded)
in_message p end to message.Other inner embedded stands = absurd (cc)

in_transport : (p : Packet) (end : End) (to : Endpoint) (t : Transport) (inner : Inner) → embedded_in t ≡ Some inner → StandsIn p end to t → to ≡ record { address = of_other end inner.source inner.destination; port = of_other end inner.source_port inner.destination_port }
in_transport p end to Fragment inner embedded stands = absurd (cc)
in_transport p end to (Tcp t) inner embedded stands = absurd (cc)
in_transport p end to (Udp u) inner embedded stands = absurd (cc)
in_transport p end to (Icmp i) inner embedded stands = in_message p end to i.message inner embedded stands
in_transport p end to Other inner embedded stands = absurd (cc)

words_stand : (d : List ℕ) (change : Change) (embedded : Option Inner) → embedded_in change.packet.transport ≡ embedded → packet_of change.packet.sender d ≡ Some change.packet → AreBytes d → StandsIn change.packet change.end change.to change.packet.transport → AllStand d (words_for d change embedded)
words_stand d change None is there are stands = packet_stands d change.packet change.end change.to there are is stands
words_stand d change (Some inner) is there are stands =
    let same = in_transport change.packet change.end change.to change.packet.transport inner is stands in
    error_stands d change.packet inner change.end change.to there are is (ap (λ (e : Endpoint). e.address) same) (ap (λ (e : Endpoint). e.port) same)

datagram_same : (d : List ℕ) (change : Change) → packet_of change.packet.sender d ≡ Some change.packet → AreBytes d → StandsIn change.packet change.end change.to change.packet.transport → with_words (words_of d change) d ≡ d
unfolding words_of
datagram_same d change there are stands = words_same _ d are (words_lie d change _ refl there) (words_stand d change _ refl there are stands)

frame_same_at : (link : ℕ) (bytes : List ℕ) (change : Change) (found : Option ℕ) → place_of link bytes ≡ found → view_of link bytes ≡ Ipv4 change.packet → AreBytes bytes → StandsIn change.packet change.end change.to change.packet.transport → rewritten link change bytes ≡ bytes
unfolding rewritten
frame_same_at link bytes change None at is are stands = rw at refl
frame_same_at link bytes change (Some place) at is are stands =
    rw at (ap (λ (t : List ℕ). take place bytes ++ t) (datagram_same (drop place bytes) change (packet_there link place bytes change.packet at is) (bytes_behind place bytes are) stands) ∙ take-append-drop place bytes)

pub frame_same : (link : ℕ) (bytes : List ℕ) (change : Change) → view_of link bytes ≡ Ipv4 change.packet → AreBytes bytes → StandsIn change.packet change.end change.to change.packet.transport → rewritten link change bytes ≡ bytes
frame_same link bytes change is are stands = frame_same_at link bytes change _ refl is are stands
