-- The checksums of the packet that an ICMP error embeds still verify after the error is rewritten.
use Rattle.std.proofs.Common.{◌≡◌, inl, ◌≤◌, ◌<◌, ◌-◌, ◌+◌, ◌*◌, ◌/◌, ◌%◌, ℕ, zero, suc, List, [], ◌∷◌, length, take, drop, slice_index, refl, sym, ◌∙◌, ap, subst, arith}
use Rattle.std.proofs.lemmas.List.{drop-drop, length-drop}
use Rattle.byteorder.specs.Endian.{big_number}
use Rattle.pfr_net.specs.declared.address.Ipv4Address.{Ipv4Address}
use Rattle.pfr_net.specs.declared.endpoint.Endpoint.{Endpoint}
use Rattle.pfr_net.specs.declared.port.Port.{Port}
use Rattle.pfr_headers.specs.declared.change.Change.{Change}
use Rattle.pfr_headers.specs.declared.change.End.{End}
use Rattle.pfr_headers.specs.declared.change.End.TheVariants.{Source, Destination}
use Rattle.pfr_headers.specs.declared.icmp.IcmpHeader.{IcmpHeader}
use Rattle.pfr_headers.specs.declared.icmp.Inner.{Inner}
use Rattle.pfr_headers.specs.Checksum.{AreBytes, HeaderVerifies, Verifies, Word, difference, difference_of, mended, mended_udp, sum_of_words, with_word, with_words, word, word_at}
use Rattle.pfr_headers.specs.ErrorLaws.{CarriesEight, IsTranslatedError, carried_sum, pseudo_header_sum, udp_checksum_of}
use Rattle.pfr_headers.specs.Laws.{sum_of}
use Rattle.pfr_headers.specs.Rewriting.{address_place, address_words, echo_words, embedded_words, header_words, other_end, outer_words, port_place, rewritten, udp_words}
use Rattle.pfr_headers.specs.Transport.{IsInner}
use Rattle.pfr_headers.specs.View.{header_length_of, total_length_of}
use Rattle.pfr_headers.proofs.CarriedLemmas.{datagram_at}
use Rattle.pfr_headers.proofs.ChecksumLemmas.{none_stays}
use Rattle.pfr_headers.proofs.ErrorBytesLemmas.{IsErrorIn, embedded_first_stay, embeds, error_room, front_lies, own_checksum, span_length, written, written_is}
use Rattle.pfr_headers.proofs.FieldLemmas.{datagram_length}
use Rattle.pfr_headers.proofs.FrontLemmas.{Agree, number_same}
use Rattle.pfr_headers.proofs.RewritingLemmas.{address_least, address_most, echo_span, embedded_span, header_span, inner_there, packet_there, port_most, udp_span}
use Rattle.pfr_headers.proofs.SegmentLemmas.{SameFrom, echo_verifies}
use Rattle.pfr_headers.proofs.SumLemmas.{Covers, Moves, address_moves, covers, covers_first, covers_second, covers_with, least, mending, mending_udp, moves_past, moves_then, moves_word, part_sum, passes_before, passes_behind, passes_both, passes_with, sum_before, sum_behind}
use Rattle.pfr_headers.proofs.VerifyingLemmas.{bytes_behind, read_at, word_small}
use Rattle.pfr_headers.proofs.ViewLemmas.{packet_by}
use Rattle.pfr_headers.proofs.WordLemmas.{Spans, address_kept, kept_before, kept_behind, length_with, length_with_all, outside}

-- ---- words beside what is summed

part_before : (ws : List Word) (bytes : List ℕ) (low high from n : ℕ) → Spans low high ws → high ≤ from → high ≤ length bytes → part_sum from n (with_words ws bytes) ≡ part_sum from n bytes
part_before [] bytes low high from n s before there = refl
part_before (w ∷ ws) bytes low high from n s before there =
    let end = s.1 in
    let size = length_with w bytes (omega arith) in
    part_before ws (with_word w bytes) low high from n s.2 before (omega (arith, size))
    ∙ sum_before from n w.place w.value bytes (omega arith) (omega arith)

part_behind : (ws : List Word) (bytes : List ℕ) (low high from n : ℕ) → Spans low high ws → from + n ≤ low → high ≤ length bytes → part_sum from n (with_words ws bytes) ≡ part_sum from n bytes
part_behind [] bytes low high from n s over there = refl
part_behind (w ∷ ws) bytes low high from n s over there =
    let begins = s.0 in
    let end = s.1 in
    let size = length_with w bytes (omega arith) in
    part_behind ws (with_word w bytes) low high from n s.2 over (omega (arith, size))
    ∙ sum_behind from n w.place w.value bytes (omega arith) (omega arith)

-- the words of a header are summed two bytes at a time
words_sum : (count : ℕ) (bytes : List ℕ) → 2 * count ≤ length bytes → sum_of_words count bytes ≡ sum_of (take (2 * count) bytes)
words_sum zero bytes long = refl
words_sum (suc count) [] long = absurd (omega arith)
words_sum (suc count) (a ∷ []) long = absurd (omega arith)
words_sum (suc count) (a ∷ (b ∷ rest)) long =
    let two : 2 * suc count ≡ suc (suc (2 * count)) = omega arith in
    let more = words_sum count rest (omega arith) in
    rw two (omega (arith, more))

-- ---- the datagram afterwards

-- the embedded header is written, then what stands behind it, and then words in front of both
record EmbeddedWritten (d : List ℕ) (at : ℕ) (inner : Inner) (end : End) (to : Endpoint) (now : List ℕ) : Type 0 where
  front : List Word
  in_front : Spans 10 at front
  is : now ≡ with_words front (with_words (embedded_words d inner.protocol.0 (at + inner.header_length) end (difference_of d (address_words (at + address_place end) to.address)) to.port) (with_words (header_words d at end to.address) d))

embedded_written : (d : List ℕ) (change : Change) (icmp : IcmpHeader) (inner : Inner) → IsErrorIn d change icmp inner → EmbeddedWritten d (change.packet.header_length + 8) inner (other_end change.end) change.to (written d change)
embedded_written d change icmp inner e = record {
  front = own_checksum d change.packet inner change.end change.to ∷ outer_words d change.packet inner change.end change.to;
  in_front = front_lies d change.packet inner change.end change.to (error_room d change icmp inner e).0;
  is = written_is d change icmp inner e;
}

-- ---- the embedded header

high_covered : (at n size : ℕ) (end : End) → 20 ≤ n → at + 20 ≤ size → Covers (part_sum at n) size (at + address_place end)
high_covered at n size Source long room = covers at n 6 size (at + 12) (omega arith) (omega arith) (omega arith)
high_covered at n size Destination long room = covers at n 8 size (at + 16) (omega arith) (omega arith) (omega arith)

low_covered : (at n size : ℕ) (end : End) → 20 ≤ n → at + 20 ≤ size → Covers (part_sum at n) size (at + address_place end + 2)
low_covered at n size Source long room = covers at n 7 size (at + 12 + 2) (omega arith) (omega arith) (omega arith)
low_covered at n size Destination long room = covers at n 9 size (at + 16 + 2) (omega arith) (omega arith) (omega arith)

header_mended : (d : List ℕ) (at n : ℕ) (end : End) (address : Ipv4Address) → AreBytes d → 20 ≤ n → at + 20 ≤ length d → address.0 < 4294967296 → 0 < word_at d at → Verifies (part_sum at n d) → Verifies (part_sum at n (with_words (header_words d at end address) d))
unfolding header_words
header_mended d at n end address are long room small some before =
    let place = at + address_place end in
    let from = address_least end in
    let most = address_most end in
    let size = length d in
    let two = with_words (address_words place address) d in
    let brought = difference_of d (address_words place address) in
    let same_size : length two ≡ length d = length_with_all (address_words place address) d (omega arith, (omega arith, record {})) in
    let checksum = word (at + 10) (mended (word_at d (at + 10)) brought) in
    let moved = address_moves (part_sum at n) size place address d refl (omega arith) (word_small place d are) (word_small (place + 2) d are) small (high_covered at n size end long room) (low_covered at n size end long room) in
    let first : word_at (with_word checksum two) at ≡ word_at d at = kept_before (at + 10) checksum.value at two (omega (arith, same_size)) (omega arith) ∙ address_kept place at address d (omega arith) (omega arith) in
    let counted = least (part_sum at n) size at (with_word checksum two) (covers at n 0 size at (omega arith) (omega arith) (omega arith)) (length_with checksum two (omega (arith, same_size)) ∙ same_size) in
    mending (part_sum at n) size (at + 10) brought d two (covers at n 5 size (at + 10) (omega arith) (omega arith) (omega arith)) refl same_size moved (address_kept place (at + 10) address d (omega arith) (omega arith)) (word_small (at + 10) d are) before (omega (arith, first, counted, some))

header_afterwards : (d now : List ℕ) (at n : ℕ) (inner : Inner) (end : End) (to : Endpoint) → EmbeddedWritten d at inner end to now → AreBytes d → 20 ≤ inner.header_length → n ≤ inner.header_length → at + inner.header_length + 8 ≤ length d → part_sum at n now ≡ part_sum at n (with_words (header_words d at end to.address) d)
header_afterwards d now at n inner end to w are long within room =
    let header = header_words d at end to.address in
    let behind = embedded_words d inner.protocol.0 (at + inner.header_length) end (difference_of d (address_words (at + address_place end) to.address)) to.port in
    let size = span_length header d (at + 10) (at + 20) (header_span d at end to.address) (omega arith) in
    let span = embedded_span d inner.protocol.0 (at + inner.header_length) end (difference_of d (address_words (at + address_place end) to.address)) to.port in
    let size_then = span_length behind (with_words header d) (at + inner.header_length) (at + inner.header_length + 8) span (omega (arith, size)) in
    ap (λ (t : List ℕ). part_sum at n t) w.is
    ∙ part_before w.front (with_words behind (with_words header d)) 10 at at n w.in_front (omega arith) (omega (arith, size, size_then))
    ∙ part_behind behind (with_words header d) (at + inner.header_length) (at + inner.header_length + 8) at n span (omega arith) (omega (arith, size))

-- ---- an embedded UDP datagram and an embedded echo

-- the sum over both addresses and what is carried
abbrev segment : ℕ → ℕ → ℕ → ℕ → List ℕ → ℕ
segment at from n more bytes = part_sum (at + 12) 8 bytes + more + part_sum from n bytes

in_addresses : (at from n more size k place : ℕ) → at + 20 ≤ from → at + 20 ≤ size → place ≡ at + 12 + 2 * k → 2 * k + 2 ≤ 8 → Covers (segment at from n more) size place
in_addresses at from n more size k place over room is within =
    covers_first _ _ size place (covers_with _ more size place (covers (at + 12) 8 k size place is within (omega arith))) (passes_before from n size place (omega arith) (omega arith))

in_carried : (at from n more size k place : ℕ) → at + 20 ≤ from → place ≡ from + 2 * k → 2 * k + 2 ≤ n → place + 2 ≤ size → Covers (segment at from n more) size place
in_carried at from n more size k place over is within room =
    covers_second _ _ size place (passes_with _ more size place (passes_behind (at + 12) 8 size place (omega (arith, is)) room)) (covers from n k size place is within room)

high_address : (at from n more size : ℕ) (end : End) → at + 20 ≤ from → at + 20 ≤ size → Covers (segment at from n more) size (at + address_place end)
high_address at from n more size Source over room = in_addresses at from n more size 0 (at + 12) over room (omega arith) (omega arith)
high_address at from n more size Destination over room = in_addresses at from n more size 2 (at + 16) over room (omega arith) (omega arith)

low_address : (at from n more size : ℕ) (end : End) → at + 20 ≤ from → at + 20 ≤ size → Covers (segment at from n more) size (at + address_place end + 2)
low_address at from n more size Source over room = in_addresses at from n more size 1 (at + 12 + 2) over room (omega arith) (omega arith)
low_address at from n more size Destination over room = in_addresses at from n more size 3 (at + 16 + 2) over room (omega arith) (omega arith)

port_covered : (at from n more size : ℕ) (end : End) → at + 20 ≤ from → 4 ≤ n → from + 4 ≤ size → Covers (segment at from n more) size (from + port_place end)
port_covered at from n more size Source over within room = in_carried at from n more size 0 (from + 0) over (omega arith) (omega arith) (omega arith)
port_covered at from n more size Destination over within room = in_carried at from n more size 1 (from + 2) over (omega arith) (omega arith) (omega arith)

-- the header's own checksum isn't summed
header_moves : (d : List ℕ) (at from n more : ℕ) (end : End) (address : Ipv4Address) → AreBytes d → at + 20 ≤ from → at + 20 ≤ length d → address.0 < 4294967296
    → Moves (segment at from n more) d (with_words (header_words d at end address) d) (difference_of d (address_words (at + address_place end) address))
unfolding header_words
header_moves d at from n more end address are over room small =
    let place = at + address_place end in
    let most = address_most end in
    let size = length_with_all (address_words place address) d (omega arith, (omega arith, record {})) in
    let none = passes_both _ _ (length d) (at + 10) (passes_with _ more (length d) (at + 10) (passes_before (at + 12) 8 (length d) (at + 10) (omega arith) (omega arith))) (passes_before from n (length d) (at + 10) (omega arith) (omega arith)) in
    let a = address_moves (segment at from n more) (length d) place address d refl (omega arith) (word_small place d are) (word_small (place + 2) d are) small (high_address at from n more (length d) end over room) (low_address at from n more (length d) end over room) in
    let b = moves_past (segment at from n more) (length d) (at + 10) (mended (word_at d (at + 10)) (difference_of d (address_words place address))) (with_words (address_words place address) d) none size in
    let p = a.is in
    let q = b.is in
    record { rounds = a.rounds + b.rounds; is = omega (arith, p, q) }

same_behind : (d : List ℕ) (at from : ℕ) (end : End) (address : Ipv4Address) → at + 20 ≤ from → at + 20 ≤ length d → SameFrom from d (with_words (header_words d at end address) d)
same_behind d at from end address over room = λ place least. outside (header_words d at end address) d (at + 10) (at + 20) place (header_span d at end address) (omega arith) (inl (omega arith))

udp_mended : (d : List ℕ) (at from n more : ℕ) (end : End) (to : Endpoint) → AreBytes d → at + 20 ≤ from → 8 ≤ n → from + 8 ≤ length d → to.address.0 < 4294967296 → to.port.0 < 65536 → 0 < word_at d (from + 6) → Verifies (segment at from n more d)
    → Verifies (segment at from n more (with_words (udp_words d from end (difference_of d (address_words (at + address_place end) to.address)) to.port) (with_words (header_words d at end to.address) d)))
unfolding udp_words
udp_mended d at from n more end to are over enough room small_address small_port some before =
    let sum = segment at from n more in
    let addresses = difference_of d (address_words (at + address_place end) to.address) in
    let now = with_words (header_words d at end to.address) d in
    let size = span_length (header_words d at end to.address) d (at + 10) (at + 20) (header_span d at end to.address) (omega arith) in
    let same = same_behind d at from end to.address over (omega arith) in
    let place = from + port_place end in
    let most = port_most end in
    let port = word place to.port.0 in
    let then = with_word port now in
    let size_then = length_with port now (omega (arith, size)) in
    let there : word_at now place ≡ word_at d place = same place (omega arith) in
    let moved = header_moves d at from n more end to.address are over (omega arith) small_address in
    let a = moves_word sum (length d) place to.port.0 now (port_covered at from n more (length d) end over (omega arith) (omega arith)) size (rw there (word_small place d are)) small_port in
    let b = moves_then sum d now then addresses (difference (word_at d place) to.port.0) moved (subst (λ (m : ℕ). Moves sum now then (difference m to.port.0)) there a) in
    let kept : word_at then (from + 6) ≡ word_at d (from + 6) = kept_behind place to.port.0 (from + 6) now (omega (arith, size)) (omega arith) ∙ same (from + 6) (omega arith) in
    mending_udp sum (length d) (from + 6) (addresses + difference (word_at d place) to.port.0) d then (in_carried at from n more (length d) 3 (from + 6) over (omega arith) (omega arith) (omega arith)) refl (size_then ∙ size) b kept (word_small (from + 6) d are) some before

-- a checksum of 0 stays
udp_unsummed : (d now : List ℕ) (from : ℕ) (end : End) (addresses : ℕ) (port : Port) → length now ≡ length d → from + 8 ≤ length d → word_at d (from + 6) ≡ 0 → word_at (with_words (udp_words d from end addresses port) now) (from + 6) ≡ 0
unfolding udp_words
udp_unsummed d now from end addresses port size room none =
    let most = port_most end in
    let first = word (from + port_place end) port.0 in
    let size_then = length_with first now (omega (arith, size)) in
    let brought = addresses + difference (word_at d (from + port_place end)) port.0 in
    let stays = none_stays (word_at d (from + 6)) brought none in
    read_at (from + 6) (mended_udp (word_at d (from + 6)) brought) (with_word first now) (omega (arith, size, size_then)) (omega (arith, stays)) ∙ stays

-- what stands behind the embedded header, by its protocol
behind_udp : (d : List ℕ) (protocol at : ℕ) (end : End) (addresses : ℕ) (port : Port) → protocol ≡ 17 → embedded_words d protocol at end addresses port ≡ udp_words d at end addresses port
unfolding embedded_words
behind_udp d protocol at end addresses port is = rw is refl

behind_echo : (d : List ℕ) (protocol at : ℕ) (end : End) (addresses : ℕ) (port : Port) → protocol ≡ 1 → embedded_words d protocol at end addresses port ≡ echo_words d at port
unfolding embedded_words
behind_echo d protocol at end addresses port is = rw is refl

-- the words in front of the embedded packet aren't summed
front_passed : (front : List Word) (bytes : List ℕ) (at from n more : ℕ) → Spans 10 at front → at ≤ from → at ≤ length bytes → segment at from n more (with_words front bytes) ≡ segment at from n more bytes
front_passed front bytes at from n more s over room =
    let a = part_before front bytes 10 at (at + 12) 8 s (omega arith) room in
    let b = part_before front bytes 10 at from n s over room in
    omega (arith, a, b)

udp_afterwards : (d now : List ℕ) (at n more : ℕ) (inner : Inner) (end : End) (to : Endpoint) → EmbeddedWritten d at inner end to now → AreBytes d → inner.protocol.0 ≡ 17 → 20 ≤ inner.header_length → 8 ≤ n → at + inner.header_length + 8 ≤ length d → to.address.0 < 4294967296 → to.port.0 < 65536
    → 0 < word_at d (at + inner.header_length + 6) → Verifies (segment at (at + inner.header_length) n more d) → Verifies (segment at (at + inner.header_length) n more now)
udp_afterwards d now at n more inner end to w are is long enough room address port some before =
    let from = at + inner.header_length in
    let header = header_words d at end to.address in
    let brought = difference_of d (address_words (at + address_place end) to.address) in
    let behind = udp_words d from end brought to.port in
    let size = span_length header d (at + 10) (at + 20) (header_span d at end to.address) (omega arith) in
    let size_then = span_length behind (with_words header d) from (from + 8) (udp_span d from end brought to.port) (omega (arith, size)) in
    let joined : now ≡ with_words w.front (with_words behind (with_words header d)) = w.is ∙ ap (λ (ws : List Word). with_words w.front (with_words ws (with_words header d))) (behind_udp d inner.protocol.0 from end brought to.port is) in
    let passed = front_passed w.front (with_words behind (with_words header d)) at from n more w.in_front (omega arith) (omega (arith, size, size_then)) in
    subst Verifies (sym (ap (λ (t : List ℕ). segment at from n more t) joined ∙ passed)) (udp_mended d at from n more end to are (omega arith) enough room address port some before)

unsummed_afterwards : (d now : List ℕ) (at : ℕ) (inner : Inner) (end : End) (to : Endpoint) → EmbeddedWritten d at inner end to now → inner.protocol.0 ≡ 17 → 20 ≤ inner.header_length → at + inner.header_length + 8 ≤ length d → word_at d (at + inner.header_length + 6) ≡ 0 → word_at now (at + inner.header_length + 6) ≡ 0
unsummed_afterwards d now at inner end to w is long room none =
    let from = at + inner.header_length in
    let header = header_words d at end to.address in
    let brought = difference_of d (address_words (at + address_place end) to.address) in
    let behind = udp_words d from end brought to.port in
    let size = span_length header d (at + 10) (at + 20) (header_span d at end to.address) (omega arith) in
    let size_then = span_length behind (with_words header d) from (from + 8) (udp_span d from end brought to.port) (omega (arith, size)) in
    let joined : now ≡ with_words w.front (with_words behind (with_words header d)) = w.is ∙ ap (λ (ws : List Word). with_words w.front (with_words ws (with_words header d))) (behind_udp d inner.protocol.0 from end brought to.port is) in
    ap (λ (t : List ℕ). word_at t (from + 6)) joined
    ∙ outside w.front (with_words behind (with_words header d)) 10 at (from + 6) w.in_front (omega (arith, size, size_then)) (inl (omega arith))
    ∙ udp_unsummed d (with_words header d) from end brought to.port size room none

echo_afterwards : (d now : List ℕ) (at n : ℕ) (inner : Inner) (end : End) (to : Endpoint) → EmbeddedWritten d at inner end to now → AreBytes d → inner.protocol.0 ≡ 1 → 20 ≤ inner.header_length → 8 ≤ n → at + inner.header_length + 8 ≤ length d → to.port.0 < 65536
    → Verifies (part_sum (at + inner.header_length) n d) → 0 < part_sum (at + inner.header_length) n now → Verifies (part_sum (at + inner.header_length) n now)
echo_afterwards d now at n inner end to w are is long enough room port before some =
    let from = at + inner.header_length in
    let header = header_words d at end to.address in
    let behind = echo_words d from to.port in
    let size = span_length header d (at + 10) (at + 20) (header_span d at end to.address) (omega arith) in
    let size_then = span_length behind (with_words header d) from (from + 8) (echo_span d from to.port) (omega (arith, size)) in
    let joined : now ≡ with_words w.front (with_words behind (with_words header d)) = w.is ∙ ap (λ (ws : List Word). with_words w.front (with_words ws (with_words header d))) (behind_echo d inner.protocol.0 from end (difference_of d (address_words (at + address_place end) to.address)) to.port is) in
    let passed = part_before w.front (with_words behind (with_words header d)) 10 at from n w.in_front (omega arith) (omega (arith, size, size_then)) in
    let same = part_before header d (at + 10) (at + 20) from n (header_span d at end to.address) (omega arith) (omega arith) in
    let equal = ap (λ (t : List ℕ). part_sum from n t) joined ∙ passed in
    subst Verifies (sym equal)
    (echo_verifies (part_sum from n) d (with_words header d) from to.port size (record { rounds = 0; is = omega (arith, same) }) (same_behind d at from end to.address (omega arith) (omega arith)) are port room
    (covers from n 2 (length d) (from + 4) (omega arith) (omega arith) (omega arith)) (covers from n 1 (length d) (from + 2) (omega arith) (omega arith) (omega arith)) before (subst (λ (m : ℕ). 0 < m) equal some))

-- ---- in the frame

-- the embedded packet begins 8 bytes behind the error's header
begins_at : (bytes : List ℕ) (place from begins : ℕ) → begins ≡ place + from + 8 → drop begins bytes ≡ drop (from + 8) (drop place bytes)
begins_at bytes place from begins is = ap (λ (n : ℕ). drop n bytes) (omega arith) ∙ sym (drop-drop (from + 8) place bytes)

-- its version is 4, so that its first word isn't 0
first_word : (d : List ℕ) (change : Change) (icmp : IcmpHeader) (inner : Inner) → IsErrorIn d change icmp inner → 0 < word_at d (change.packet.header_length + 8)
first_word d change icmp inner e =
    let h = (packet_by d change.packet e.there).header in
    let same : drop 8 (drop (header_length_of d) d) ≡ drop (change.packet.header_length + 8) d = drop-drop 8 (header_length_of d) d ∙ ap (λ (n : ℕ). drop (n + 8) d) (sym h.header_length) in
    let version = subst (λ (t : List ℕ). slice_index t 0 / 16 ≡ 4) same (inner_there d change.packet inner e.there (embeds d change icmp inner e)).version in
    omega arith

-- the frame's datagram, and its embedded packet before and afterwards
record InFrame (link : ℕ) (bytes : List ℕ) (change : Change) (inner : Inner) (begins : ℕ) : Type 0 where
  d : List ℕ
  icmp : IcmpHeader
  error : IsErrorIn d change icmp inner
  are_bytes : AreBytes d
  before : drop begins bytes ≡ drop (change.packet.header_length + 8) d
  afterwards : drop begins (rewritten link change bytes) ≡ drop (change.packet.header_length + 8) (written d change)

in_frame : (link : ℕ) (bytes : List ℕ) (change : Change) (inner : Inner) (begins : ℕ) → IsTranslatedError link bytes change inner begins → InFrame link bytes change inner begins
in_frame link bytes change inner begins is =
    let t = is.translated in
    let from = change.packet.header_length in
    record {
      d = drop is.place bytes;
      icmp = is.icmp;
      error = record { there = packet_there link is.place bytes change.packet t.begins t.view; is_icmp = is.is_icmp; is_error = is.is_error };
      are_bytes = bytes_behind is.place bytes t.are_bytes;
      before = begins_at bytes is.place from begins is.behind;
      afterwards = begins_at (rewritten link change bytes) is.place from begins is.behind ∙ ap (λ (s : List ℕ). drop (from + 8) s) (datagram_at link is.place bytes change t.view t.begins);
    }

header_sum : (count at : ℕ) (e d : List ℕ) → e ≡ drop at d → at + 2 * count ≤ length d → sum_of_words count e ≡ part_sum at (2 * count) d
header_sum count at e d is room = ap (λ (s : List ℕ). sum_of_words count s) is ∙ words_sum count (drop at d) (omega (arith, length-drop at d))

pub frame_header : (link : ℕ) (bytes : List ℕ) (change : Change) (inner : Inner) (begins : ℕ) → IsTranslatedError link bytes change inner begins → HeaderVerifies begins inner.header_length bytes → HeaderVerifies begins inner.header_length (rewritten link change bytes)
frame_header link bytes change inner begins is before =
    λ count words.
    let f = in_frame link bytes change inner begins is in
    let room = error_room f.d change f.icmp inner f.error in
    let long = room.1 in
    let most = room.2 in
    let at = change.packet.header_length + 8 in
    let old = header_sum count at (drop begins bytes) f.d f.before (omega arith) in
    let new = header_sum count at (drop begins (rewritten link change bytes)) (written f.d change) f.afterwards (omega (arith, datagram_length f.d change f.error.there)) in
    let same = header_afterwards f.d (written f.d change) at (2 * count) inner (other_end change.end) change.to (embedded_written f.d change f.icmp inner f.error) f.are_bytes long (omega arith) most in
    subst Verifies (sym (new ∙ same))
    (header_mended f.d at (2 * count) (other_end change.end) change.to.address f.are_bytes (omega arith) (omega arith) is.translated.address (first_word f.d change f.icmp inner f.error) (subst Verifies old (before count words)))

-- what the embedded header says of its lengths and its protocol
record SaysOf (e : List ℕ) (header total protocol : ℕ) : Type 0 where
  header_length : header_length_of e ≡ header
  total_length : total_length_of e ≡ total
  protocol_is : slice_index e 9 ≡ protocol

says_before : (d : List ℕ) (change : Change) (icmp : IcmpHeader) (inner : Inner) → IsErrorIn d change icmp inner → SaysOf (drop (change.packet.header_length + 8) d) inner.header_length (total_length_of (drop (change.packet.header_length + 8) d)) inner.protocol.0
says_before d change icmp inner e =
    let h = (packet_by d change.packet e.there).header in
    let same : drop 8 (drop (header_length_of d) d) ≡ drop (change.packet.header_length + 8) d = drop-drop 8 (header_length_of d) d ∙ ap (λ (n : ℕ). drop (n + 8) d) (sym h.header_length) in
    let i = subst (λ (t : List ℕ). IsInner t inner) same (inner_there d change.packet inner e.there (embeds d change icmp inner e)) in
    record { header_length = sym i.header_length; total_length = refl; protocol_is = sym i.protocol }

says_afterwards : (now old : List ℕ) (header total protocol : ℕ) → Agree 0 10 now old → SaysOf old header total protocol → SaysOf now header total protocol
says_afterwards now old header total protocol same says = record {
  header_length = ap (λ (n : ℕ). 4 * (n % 16)) (same 0 (omega arith) (omega arith)) ∙ says.header_length;
  total_length = number_same 2 2 0 10 now old same (omega arith) (omega arith) ∙ says.total_length;
  protocol_is = same 9 (omega arith) (omega arith) ∙ says.protocol_is;
}

-- the sums, in the error's datagram
carried_is : (e d : List ℕ) (at header total protocol : ℕ) → e ≡ drop at d → SaysOf e header total protocol → carried_sum e ≡ part_sum (at + header) (total - header) d
carried_is e d at header total protocol is says =
    let behind : drop header e ≡ drop (at + header) d = ap (λ (s : List ℕ). drop header s) is ∙ drop-drop header at d in
    rw (says.header_length, says.total_length, behind) refl

segment_is : (e d : List ℕ) (at header total protocol : ℕ) → e ≡ drop at d → SaysOf e header total protocol → pseudo_header_sum e + carried_sum e ≡ segment at (at + header) (total - header) (protocol + (total - header)) d
segment_is e d at header total protocol is says =
    let addresses : drop 12 e ≡ drop (at + 12) d = ap (λ (s : List ℕ). drop 12 s) is ∙ drop-drop 12 at d in
    let behind : drop header e ≡ drop (at + header) d = ap (λ (s : List ℕ). drop header s) is ∙ drop-drop header at d in
    rw (says.header_length, says.total_length, says.protocol_is, addresses, behind) refl

checksum_is : (e d : List ℕ) (at header total protocol : ℕ) → e ≡ drop at d → SaysOf e header total protocol → udp_checksum_of e ≡ word_at d (at + header + 6)
checksum_is e d at header total protocol is says =
    ap (λ (n : ℕ). word_at e (n + 6)) says.header_length
    ∙ ap (λ (s : List ℕ). big_number 2 (drop (header + 6) s)) is
    ∙ ap (λ (s : List ℕ). big_number 2 s) (drop-drop (header + 6) at d ∙ ap (λ (n : ℕ). drop n d) (omega arith))

-- both sayings, of the frame
record SaysBoth (link : ℕ) (bytes : List ℕ) (change : Change) (inner : Inner) (begins total : ℕ) : Type 0 where
  before : SaysOf (drop begins bytes) inner.header_length total inner.protocol.0
  afterwards : SaysOf (drop begins (rewritten link change bytes)) inner.header_length total inner.protocol.0

says : (link : ℕ) (bytes : List ℕ) (change : Change) (inner : Inner) (begins : ℕ) (f : InFrame link bytes change inner begins) → SaysBoth link bytes change inner begins (total_length_of (drop begins bytes))
says link bytes change inner begins f =
    let at = change.packet.header_length + 8 in
    let old = subst (λ (s : List ℕ). SaysOf s inner.header_length (total_length_of s) inner.protocol.0) (sym f.before) (says_before f.d change f.icmp inner f.error) in
    let same = embedded_first_stay f.d change f.icmp inner f.error in
    let agree = subst (λ (s : List ℕ). Agree 0 10 s (drop begins bytes)) (sym f.afterwards) (subst (λ (s : List ℕ). Agree 0 10 (drop at (written f.d change)) s) (sym f.before) same) in
    record { before = old; afterwards = says_afterwards (drop begins (rewritten link change bytes)) (drop begins bytes) inner.header_length (total_length_of (drop begins bytes)) inner.protocol.0 agree old }

pub frame_udp : (link : ℕ) (bytes : List ℕ) (change : Change) (inner : Inner) (begins : ℕ) → IsTranslatedError link bytes change inner begins → inner.protocol.0 ≡ 17 → CarriesEight (drop begins bytes) → 0 < udp_checksum_of (drop begins bytes)
    → Verifies (pseudo_header_sum (drop begins bytes) + carried_sum (drop begins bytes)) → Verifies (pseudo_header_sum (drop begins (rewritten link change bytes)) + carried_sum (drop begins (rewritten link change bytes)))
frame_udp link bytes change inner begins is udp eight some before =
    let f = in_frame link bytes change inner begins is in
    let s = says link bytes change inner begins f in
    let room = error_room f.d change f.icmp inner f.error in
    let at = change.packet.header_length + 8 in
    let total = total_length_of (drop begins bytes) in
    let header = s.before.header_length in
    let n = total - inner.header_length in
    let old = segment_is (drop begins bytes) f.d at inner.header_length total inner.protocol.0 f.before s.before in
    let new = segment_is (drop begins (rewritten link change bytes)) (written f.d change) at inner.header_length total inner.protocol.0 f.afterwards s.afterwards in
    let there = subst (λ (m : ℕ). 0 < m) (checksum_is (drop begins bytes) f.d at inner.header_length total inner.protocol.0 f.before s.before) some in
    subst Verifies (sym new)
    (udp_afterwards f.d (written f.d change) at n (inner.protocol.0 + n) inner (other_end change.end) change.to (embedded_written f.d change f.icmp inner f.error) f.are_bytes udp room.1 (omega arith) room.2 is.translated.address is.translated.port there (subst Verifies old before))

pub frame_unsummed : (link : ℕ) (bytes : List ℕ) (change : Change) (inner : Inner) (begins : ℕ) → IsTranslatedError link bytes change inner begins → inner.protocol.0 ≡ 17 → udp_checksum_of (drop begins bytes) ≡ 0 → udp_checksum_of (drop begins (rewritten link change bytes)) ≡ 0
frame_unsummed link bytes change inner begins is udp none =
    let f = in_frame link bytes change inner begins is in
    let s = says link bytes change inner begins f in
    let room = error_room f.d change f.icmp inner f.error in
    let at = change.packet.header_length + 8 in
    let total = total_length_of (drop begins bytes) in
    let old = checksum_is (drop begins bytes) f.d at inner.header_length total inner.protocol.0 f.before s.before in
    checksum_is (drop begins (rewritten link change bytes)) (written f.d change) at inner.header_length total inner.protocol.0 f.afterwards s.afterwards
    ∙ unsummed_afterwards f.d (written f.d change) at inner (other_end change.end) change.to (embedded_written f.d change f.icmp inner f.error) udp room.1 room.2 (sym old ∙ none)

pub frame_echo : (link : ℕ) (bytes : List ℕ) (change : Change) (inner : Inner) (begins : ℕ) → IsTranslatedError link bytes change inner begins → inner.protocol.0 ≡ 1 → CarriesEight (drop begins bytes)
    → Verifies (carried_sum (drop begins bytes)) → 0 < carried_sum (drop begins (rewritten link change bytes)) → Verifies (carried_sum (drop begins (rewritten link change bytes)))
frame_echo link bytes change inner begins is echo eight before some =
    let f = in_frame link bytes change inner begins is in
    let s = says link bytes change inner begins f in
    let room = error_room f.d change f.icmp inner f.error in
    let at = change.packet.header_length + 8 in
    let total = total_length_of (drop begins bytes) in
    let header = s.before.header_length in
    let old = carried_is (drop begins bytes) f.d at inner.header_length total inner.protocol.0 f.before s.before in
    let new = carried_is (drop begins (rewritten link change bytes)) (written f.d change) at inner.header_length total inner.protocol.0 f.afterwards s.afterwards in
    subst Verifies (sym new)
    (echo_afterwards f.d (written f.d change) at (total - inner.header_length) inner (other_end change.end) change.to (embedded_written f.d change f.icmp inner f.error) f.are_bytes echo room.1 (omega arith) room.2 is.translated.port (subst Verifies old before) (subst (λ (m : ℕ). 0 < m) new some))
