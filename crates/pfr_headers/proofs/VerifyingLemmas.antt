-- The checksum of an IPv4 header still verifies after its packet is rewritten.
use Rattle.std.proofs.Common.{◌≡◌, inl, inr, ◌≤◌, ◌<◌, ◌+◌, ◌*◌, ◌++◌, ℕ, Bool, true, false, eqb, List, [], ◌∷◌, length, take, drop, Option, Some, None, refl, sym, ◌∙◌, ap, subst, arith}
use Rattle.std.proofs.lemmas.List.{append_assoc, get_or-drop, length-take-le}
use Rattle.std.proofs.Math.Seq.{drop-append_seam}
use Rattle.byteorder.specs.Numbers.{big_from-lt, big_number-reads_back}
use Rattle.byteorder.specs.Endian.{big_bytes, big_number}
use Rattle.pfr_net.specs.declared.address.Ipv4Address.{Ipv4Address}
use Rattle.pfr_net.specs.declared.endpoint.Endpoint.{Endpoint}
use Rattle.pfr_net.specs.declared.port.Port.{Port}
use Rattle.pfr_headers.specs.declared.change.Change.{Change}
use Rattle.pfr_headers.specs.declared.change.End.{End}
use Rattle.pfr_headers.specs.declared.change.End.TheVariants.{Source, Destination}
use Rattle.pfr_headers.specs.declared.icmp.IcmpMessage.{IcmpMessage}
use Rattle.pfr_headers.specs.declared.icmp.IcmpMessage.TheVariants as message
use Rattle.pfr_headers.specs.declared.icmp.Inner.{Inner}
use Rattle.pfr_headers.specs.declared.packet.Packet.{Packet}
use Rattle.pfr_headers.specs.declared.transport.Transport.{Transport}
use Rattle.pfr_headers.specs.declared.transport.Transport.TheVariants.{Fragment, Tcp, Udp, Icmp, Other}
use Rattle.pfr_headers.specs.Checksum.{AreBytes, HeaderVerifies, Verifies, Word, difference_of, mended, sum_of_words, with_word, with_words, word, word_at}
use Rattle.pfr_headers.specs.Rewriting.{address_place, address_words, behind_words, echo_or_none, echo_words, end_address, error_words, header_words, inner_words, other_end, outer_words, packet_words, rewritten, tcp_words, embedded_in, udp_words, words_for, words_of}
use Rattle.pfr_headers.specs.Room.{BehindFits, InnerFits}
use Rattle.pfr_headers.specs.declared.packet.View.TheVariants.{Ipv4}
use Rattle.pfr_headers.specs.View.{HoldsIpv4, packet_of, place_of, view_of}
use Rattle.pfr_headers.proofs.ChecksumLemmas.{sum_outside, sum_with}
use Rattle.pfr_headers.proofs.SumLemmas.{Covers, address_moves, least, mending}
use Rattle.pfr_headers.proofs.RewritingLemmas.{address_least, address_most, echo_span, header_room, header_span, inner_room, inner_span, outer_same, packet_there, port_most, transport_room, udp_span}
use Rattle.pfr_headers.proofs.ViewLemmas.{packet_by, place_by}
use Rattle.pfr_headers.proofs.WordLemmas.{AllWithin, Spans, address_kept, kept_before, length_with, length_with_all, outside, spans_append, spans_wider, with_append}

pub word_small : (place : ℕ) (bytes : List ℕ) → AreBytes bytes → word_at bytes place ≤ 65535
word_small place bytes are =
    let below = big_from-lt 0 2 (drop place bytes) (λ k. let at = get_or-drop place bytes k 0 in rw at (are (place + k))) in
    omega arith

-- the words of a header's fixed part are 16-bit numbers
abbrev AreSmall : List ℕ → Type 0
AreSmall bytes = (place : ℕ) → place ≤ 18 → word_at bytes place ≤ 65535

small_words : (bytes : List ℕ) → AreBytes bytes → AreSmall bytes
small_words bytes are = λ place within. word_small place bytes are

pub read_at : (place value : ℕ) (bytes : List ℕ) → place + 2 ≤ length bytes → value < 65536 → word_at (with_word (word place value) bytes) place ≡ value
unfolding with_word
read_at place value bytes within small =
    let behind = big_bytes 2 value ++ drop (place + 2) bytes in
    let seam : drop place (take place bytes ++ behind) ≡ behind = subst (λ (n : ℕ). drop n (take place bytes ++ behind) ≡ behind) (length-take-le place bytes (omega arith)) (drop-append_seam (take place bytes) behind) in
    ap (λ (t : List ℕ). big_number 2 t) seam ∙ big_number-reads_back 2 value (drop (place + 2) bytes) small

-- the words that are summed
header_covers : (count k size : ℕ) → k < count → 2 * count ≤ size → Covers (sum_of_words count) size (2 * k)
header_covers count k size below within = record { is = λ bytes value is small. sum_with k count value bytes below (omega (arith, is)) small }

high_covered : (count size : ℕ) (end : End) → 10 ≤ count → 2 * count ≤ size → Covers (sum_of_words count) size (0 + address_place end)
high_covered count size Source long within = header_covers count 6 size (omega arith) within
high_covered count size Destination long within = header_covers count 8 size (omega arith) within

low_covered : (count size : ℕ) (end : End) → 10 ≤ count → 2 * count ≤ size → Covers (sum_of_words count) size (0 + address_place end + 2)
low_covered count size Source long within = header_covers count 7 size (omega arith) within
low_covered count size Destination long within = header_covers count 9 size (omega arith) within

-- so the header's checksum verifies after an address of it was written
header_verifies : (count : ℕ) (end : End) (address : Ipv4Address) (d : List ℕ) → AreSmall d → 10 ≤ count → 2 * count ≤ length d → address.0 < 4294967296 → 0 < word_at d 2 → Verifies (sum_of_words count d) → Verifies (sum_of_words count (with_words (header_words d 0 end address) d))
unfolding header_words
header_verifies count end address d are long within small some before =
    let place = 0 + address_place end in
    let least_place = address_least end in
    let most = address_most end in
    let two = with_words (address_words place address) d in
    let brought = difference_of d (address_words place address) in
    let size : length two ≡ length d = length_with_all (address_words place address) d (omega arith, (omega arith, record {})) in
    let checksum = word 10 (mended (word_at d 10) brought) in
    let moved = address_moves (sum_of_words count) (length d) place address d refl (omega arith) (are place (omega arith)) (are (place + 2) (omega arith)) small (high_covered count (length d) end long within) (low_covered count (length d) end long within) in
    let total : word_at (with_word checksum two) 2 ≡ word_at d 2 = kept_before 10 checksum.value 2 two (omega (arith, size)) (omega arith) ∙ address_kept place 2 address d (omega arith) (omega arith) in
    let counted = least (sum_of_words count) (length d) 2 (with_word checksum two) (header_covers count 1 (length d) (omega arith) within) (length_with checksum two (omega (arith, size)) ∙ size) in
    mending (sum_of_words count) (length d) 10 brought d two (header_covers count 5 (length d) (omega arith) within) refl size moved (address_kept place 10 address d (omega arith) (omega arith)) (are 10 (omega arith)) before (omega (arith, total, counted, some))

-- what is written behind the header doesn't touch its words

pub tcp_span : (d : List ℕ) (at : ℕ) (end : End) (addresses : ℕ) (port : Port) → Spans at (at + 20) (tcp_words d at end addresses port)
unfolding tcp_words
tcp_span d at end addresses port =
    let most = port_most end in
    (omega arith, omega arith, (omega arith, omega arith, record {}))

echo_sum : (count size at : ℕ) (d b : List ℕ) (port : Port) (m : IcmpMessage) → 2 * count ≤ at → size ≤ length b → at + 8 ≤ size → sum_of_words count (with_words (echo_or_none d at port m) b) ≡ sum_of_words count b
echo_sum count size at d b port (message.Echo identifier) over within fits = sum_outside count (echo_words d at port) b at (at + 8) (echo_span d at port) over (omega arith)
echo_sum count size at d b port (message.Error inner) over within fits = refl
echo_sum count size at d b port message.Other over within fits = refl

pub all_within : (ws : List Word) (low high size : ℕ) → Spans low high ws → high ≤ size → AllWithin size ws
all_within [] low high size s within = record {}
all_within (w ∷ ws) low high size s within =
    let b = s.1 in
    (omega arith, all_within ws low high size s.2 within)

behind_sum : (count size at : ℕ) (d b : List ℕ) (end : End) (s : ℕ) (port : Port) (t : Transport) → 2 * count ≤ at → size ≤ length b → BehindFits size at t → sum_of_words count (with_words (behind_words d at end s port t) b) ≡ sum_of_words count b
behind_sum count size at d b end s port Fragment over within fits = refl
behind_sum count size at d b end s port (Tcp t) over within fits = sum_outside count (tcp_words d at end s port) b at (at + 20) (tcp_span d at end s port) over (omega arith)
behind_sum count size at d b end s port (Udp u) over within fits = sum_outside count (udp_words d at end s port) b at (at + 8) (udp_span d at end s port) over (omega arith)
behind_sum count size at d b end s port (Icmp i) over within fits = echo_sum count size at d b port i.message over within fits
behind_sum count size at d b end s port Other over within fits = refl

pub header_within : (d : List ℕ) (header : ℕ) (end : End) (address : Ipv4Address) → header + 20 ≤ length d → length (with_words (header_words d header end address) d) ≡ length d
header_within d header end address room = length_with_all (header_words d header end address) d (all_within (header_words d header end address) (header + 10) (header + 20) (length d) (header_span d header end address) room)

packet_verifies : (count : ℕ) (d : List ℕ) (p : Packet) (end : End) (to : Endpoint) → AreSmall d → 2 * count ≡ p.header_length → 20 ≤ p.header_length → p.header_length ≤ length d → BehindFits (length d) p.header_length p.transport → to.address.0 < 4294967296 → 0 < word_at d 2 → Verifies (sum_of_words count d) → Verifies (sum_of_words count (with_words (packet_words d p end to) d))
unfolding packet_words
packet_verifies count d p end to are words long within fits small some before =
    let header = header_words d 0 end to.address in
    let behind = behind_words d p.header_length end (difference_of d (address_words (address_place end) to.address)) to.port p.transport in
    let size = header_within d 0 end to.address (omega arith) in
    let same = behind_sum count (length d) p.header_length d (with_words header d) end (difference_of d (address_words (address_place end) to.address)) to.port p.transport (omega arith) (omega (arith, size)) fits in
    rw (with_append header behind d, same) (header_verifies count end to.address d are (omega arith) (omega arith) small some before)

outer_verifies : (count : ℕ) (b : List ℕ) (p : Packet) (inner : Inner) (end : End) (to : Endpoint) (same : Bool) → eqb (end_address end p.source p.destination).0 (end_address (other_end end) inner.source inner.destination).0 ≡ same → AreSmall b → 10 ≤ count → 2 * count ≤ length b → to.address.0 < 4294967296 → 0 < word_at b 2 → Verifies (sum_of_words count b) → Verifies (sum_of_words count (with_words (outer_words b p inner end to) b))
unfolding outer_words
outer_verifies count b p inner end to true e are long within small some before = rw e (header_verifies count end to.address b are long within small some before)
outer_verifies count b p inner end to false e are long within small some before = rw e before

kept_small : (before : List Word) (d : List ℕ) (low high : ℕ) → Spans low high before → 20 ≤ low → high ≤ length d → AreSmall d → AreSmall (with_words before d)
kept_small before d low high s over within are = λ place below. let same = outside before d low high place s within (inr (omega arith)) in rw same (are place below)

error_verifies : (count : ℕ) (d : List ℕ) (p : Packet) (inner : Inner) (end : End) (to : Endpoint) → AreSmall d → 2 * count ≡ p.header_length → 20 ≤ p.header_length → InnerFits (length d) (p.header_length + 8) inner → to.address.0 < 4294967296 → 0 < word_at d 2 → Verifies (sum_of_words count d) → Verifies (sum_of_words count (with_words (error_words d p inner end to) d))
unfolding error_words
error_verifies count d p inner end to are words long fits small some before =
    let header = fits.header in
    let room = fits.behind in
    let carried = inner_words d (p.header_length + 8) inner (other_end end) to in
    let checksum = word (p.header_length + 2) (mended (word_at d (p.header_length + 2)) (difference_of d carried)) in
    let first = carried ++ checksum ∷ [] in
    let low = p.header_length + 2 in
    let high = p.header_length + 8 + inner.header_length + 8 in
    let span : Spans low high first = spans_append carried (checksum ∷ []) low high
    (spans_wider carried (p.header_length + 8 + 10) high low high (inner_span d (p.header_length + 8) inner (other_end end) to header) (omega arith) (omega arith))
    (omega arith, omega arith, record {}) in
    let b = with_words first d in
    let size : length b ≡ length d = length_with_all first d (all_within first low high (length d) span (omega arith)) in
    let total : word_at b 2 ≡ word_at d 2 = outside first d low high 2 span (omega arith) (inr (omega arith)) in
    let sum : sum_of_words count b ≡ sum_of_words count d = sum_outside count first d low high span (omega arith) (omega arith) in
    let same = outer_same first d low high p inner end to span (omega arith) (omega arith) in
    let now : Verifies (sum_of_words count b) = rw sum before in
    let after = outer_verifies count b p inner end to _ refl (kept_small first d low high span (omega arith) (omega arith) are) (omega arith) (omega (arith, size)) small (omega (arith, total)) now in
    rw (sym (append_assoc carried (checksum ∷ []) (outer_words d p inner end to)), with_append first (outer_words d p inner end to) d, sym same) after

-- all words of a change
words_verify : (count : ℕ) (d : List ℕ) (change : Change) (embedded : Option Inner) → embedded_in change.packet.transport ≡ embedded → packet_of change.packet.sender d ≡ Some change.packet → AreSmall d → 2 * count ≡ change.packet.header_length → change.to.address.0 < 4294967296 → 0 < word_at d 2 → Verifies (sum_of_words count d) → Verifies (sum_of_words count (with_words (words_for d change embedded) d))
words_verify count d change None is there are words small some before =
    let room = header_room d change.packet there in
    packet_verifies count d change.packet change.end change.to are words room.0 room.1 (transport_room d change.packet there) small some before
words_verify count d change (Some inner) is there are words small some before =
    error_verifies count d change.packet inner change.end change.to are words (header_room d change.packet there).0 (inner_room d change.packet inner there is) small some before

pub datagram_verifies : (count : ℕ) (d : List ℕ) (change : Change) → packet_of change.packet.sender d ≡ Some change.packet → AreBytes d → 2 * count ≡ change.packet.header_length → change.to.address.0 < 4294967296 → Verifies (sum_of_words count d) → Verifies (sum_of_words count (with_words (words_of d change) d))
unfolding words_of
datagram_verifies count d change there are words small before =
    let h = (packet_by d change.packet there).header in
    let least = h.at_least in
    let total = h.within_total in
    words_verify count d change _ refl there (small_words d are) words small (omega arith) before

-- and in the frame

pub place_within : (link : ℕ) (bytes : List ℕ) (place : ℕ) → HoldsIpv4 link bytes place → place ≤ length bytes
place_within link bytes place (inl r) = let e = r.place_is in omega arith
place_within link bytes place (inr (inl l)) =
    let e = l.place_is in
    let w = l.whole in
    omega arith
place_within link bytes place (inr (inr (inl n))) =
    let e = n.place_is in
    let w = n.whole in
    omega arith
place_within link bytes place (inr (inr (inr t))) =
    let e = t.place_is in
    let w = t.whole in
    omega arith

pub bytes_behind : (place : ℕ) (bytes : List ℕ) → AreBytes bytes → AreBytes (drop place bytes)
bytes_behind place bytes are = λ k. let at = get_or-drop place bytes k 0 in rw at (are (place + k))

pub frame_verifies : (link : ℕ) (bytes : List ℕ) (change : Change) (place : ℕ) → view_of link bytes ≡ Ipv4 change.packet → place_of link bytes ≡ Some place → AreBytes bytes → change.to.address.0 < 4294967296 → HeaderVerifies place change.packet.header_length bytes → HeaderVerifies place change.packet.header_length (rewritten link change bytes)
unfolding rewritten
frame_verifies link bytes change place is at are small before =
    λ count words.
    let d = drop place bytes in
    let there = packet_there link place bytes change.packet at is in
    let within = place_within link bytes place (place_by link bytes place at) in
    let new = with_words (words_of d change) d in
    let seam : drop place (take place bytes ++ new) ≡ new = subst (λ (n : ℕ). drop n (take place bytes ++ new) ≡ new) (length-take-le place bytes within) (drop-append_seam (take place bytes) new) in
    rw (at, seam) (datagram_verifies count d change there (bytes_behind place bytes are) words small (before count words))
