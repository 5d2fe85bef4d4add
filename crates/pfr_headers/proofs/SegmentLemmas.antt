-- The checksums of TCP and UDP still verify after a packet is rewritten, and that of an echo.
use Rattle.std.proofs.Common.{◌≡◌, inl, ◌≤◌, ◌<◌, ◌-◌, ◌+◌, ◌*◌, ℕ, List, length, drop, slice_index, Some, refl, ◌∙◌, subst, arith}
use Rattle.pfr_net.specs.declared.address.Ipv4Address.{Ipv4Address}
use Rattle.pfr_net.specs.declared.endpoint.Endpoint.{Endpoint}
use Rattle.pfr_net.specs.declared.port.Port.{Port}
use Rattle.pfr_headers.specs.declared.change.End.{End}
use Rattle.pfr_headers.specs.declared.change.End.TheVariants.{Source, Destination}
use Rattle.pfr_headers.specs.declared.icmp.IcmpHeader.{IcmpHeader}
use Rattle.pfr_headers.specs.declared.packet.Packet.{Packet}
use Rattle.pfr_headers.specs.declared.tcp.TcpHeader.{TcpHeader}
use Rattle.pfr_headers.specs.declared.transport.Transport.{Transport}
use Rattle.pfr_headers.specs.declared.transport.Transport.TheVariants.{Tcp, Udp, Icmp}
use Rattle.pfr_headers.specs.declared.udp.UdpHeader.{UdpHeader}
use Rattle.pfr_headers.specs.Checksum.{AreBytes, Verifies, difference, difference_of, mended, mended_udp, with_word, with_words, word, word_at}
use Rattle.pfr_headers.specs.Laws.{segment_sum}
use Rattle.pfr_headers.specs.Rewriting.{address_place, address_words, echo_words, header_words, packet_words, port_place, tcp_words, udp_words}
use Rattle.pfr_headers.specs.Room.{BehindFits}
use Rattle.pfr_headers.specs.Transport.{IsTransport}
use Rattle.pfr_headers.specs.View.{header_length_of, is_fragment, packet_of, total_length_of}
use Rattle.pfr_headers.proofs.ChecksumLemmas.{none_stays}
use Rattle.pfr_headers.proofs.RewritingLemmas.{address_most, header_room, header_span, port_most, transport_room}
use Rattle.pfr_headers.proofs.SumLemmas.{Covers, Moves, Passes, address_moves, covers, covers_first, covers_second, covers_with, mending, mending_udp, moves_past, moves_then, moves_word, part_sum, passes_before, passes_behind, passes_both, passes_with}
use Rattle.pfr_headers.proofs.VerifyingLemmas.{header_within, read_at, word_small}
use Rattle.pfr_headers.proofs.ViewLemmas.{packet_by}
use Rattle.pfr_headers.proofs.WordLemmas.{kept_before, kept_behind, length_with, length_with_all, outside, with_append}

-- ---- an address of a header

header_moves : (sum : List ℕ → ℕ) (d : List ℕ) (header : ℕ) (end : End) (address : Ipv4Address) → AreBytes d → header + 20 ≤ length d → address.0 < 4294967296
    → Covers sum (length d) (header + address_place end) → Covers sum (length d) (header + address_place end + 2) → Passes sum (length d) (header + 10)
    → Moves sum d (with_words (header_words d header end address) d) (difference_of d (address_words (header + address_place end) address))
unfolding header_words
header_moves sum d header end address are room small first second none =
    let place = header + address_place end in
    let most = address_most end in
    let size = length_with_all (address_words place address) d (omega arith, (omega arith, record {})) in
    let a = address_moves sum (length d) place address d refl (omega arith) (word_small place d are) (word_small (place + 2) d are) small first second in
    let b = moves_past sum (length d) (header + 10) (mended (word_at d (header + 10)) (difference_of d (address_words place address))) (with_words (address_words place address) d) none size in
    let p = a.is in
    let q = b.is in
    record { rounds = a.rounds + b.rounds; is = omega (arith, p, q) }

-- ---- ports and checksums behind it

-- words from a place on are as they were
abbrev pub SameFrom : ℕ → List ℕ → List ℕ → Type 0
SameFrom at old now = (place : ℕ) → at ≤ place → word_at now place ≡ word_at old place

tcp_verifies : (sum : List ℕ → ℕ) (d now : List ℕ) (at : ℕ) (end : End) (addresses : ℕ) (port : Port) → length now ≡ length d → Moves sum d now addresses → SameFrom at d now → AreBytes d → port.0 < 65536 → at + 20 ≤ length d
    → Covers sum (length d) (at + port_place end) → Covers sum (length d) (at + 16)
    → Verifies (sum d) → 0 < sum (with_words (tcp_words d at end addresses port) now) → Verifies (sum (with_words (tcp_words d at end addresses port) now))
unfolding tcp_words
tcp_verifies sum d now at end addresses port size moved same are small room first second before some =
    let place = at + port_place end in
    let most = port_most end in
    let then = with_word (word place port.0) now in
    let size_then = length_with (word place port.0) now (omega (arith, size)) in
    let there : word_at now place ≡ word_at d place = same place (omega arith) in
    let a = moves_word sum (length d) place port.0 now first size (rw there (word_small place d are)) small in
    let b = moves_then sum d now then addresses (difference (word_at d place) port.0) moved (subst (λ (n : ℕ). Moves sum now then (difference n port.0)) there a) in
    let kept : word_at then (at + 16) ≡ word_at d (at + 16) = kept_behind place port.0 (at + 16) now (omega (arith, size)) (omega arith) ∙ same (at + 16) (omega arith) in
    mending sum (length d) (at + 16) (addresses + difference (word_at d place) port.0) d then second refl (size_then ∙ size) b kept (word_small (at + 16) d are) before some

udp_verifies : (sum : List ℕ → ℕ) (d now : List ℕ) (at : ℕ) (end : End) (addresses : ℕ) (port : Port) → length now ≡ length d → Moves sum d now addresses → SameFrom at d now → AreBytes d → port.0 < 65536 → at + 8 ≤ length d
    → Covers sum (length d) (at + port_place end) → Covers sum (length d) (at + 6)
    → 0 < word_at d (at + 6) → Verifies (sum d) → Verifies (sum (with_words (udp_words d at end addresses port) now))
unfolding udp_words
udp_verifies sum d now at end addresses port size moved same are small room first second there_is before =
    let place = at + port_place end in
    let most = port_most end in
    let then = with_word (word place port.0) now in
    let size_then = length_with (word place port.0) now (omega (arith, size)) in
    let there : word_at now place ≡ word_at d place = same place (omega arith) in
    let a = moves_word sum (length d) place port.0 now first size (rw there (word_small place d are)) small in
    let b = moves_then sum d now then addresses (difference (word_at d place) port.0) moved (subst (λ (n : ℕ). Moves sum now then (difference n port.0)) there a) in
    let kept : word_at then (at + 6) ≡ word_at d (at + 6) = kept_behind place port.0 (at + 6) now (omega (arith, size)) (omega arith) ∙ same (at + 6) (omega arith) in
    mending_udp sum (length d) (at + 6) (addresses + difference (word_at d place) port.0) d then second refl (size_then ∙ size) b kept (word_small (at + 6) d are) there_is before

pub echo_verifies : (sum : List ℕ → ℕ) (d now : List ℕ) (at : ℕ) (port : Port) → length now ≡ length d → Moves sum d now 0 → SameFrom at d now → AreBytes d → port.0 < 65536 → at + 8 ≤ length d
    → Covers sum (length d) (at + 4) → Covers sum (length d) (at + 2)
    → Verifies (sum d) → 0 < sum (with_words (echo_words d at port) now) → Verifies (sum (with_words (echo_words d at port) now))
unfolding echo_words
echo_verifies sum d now at port size moved same are small room first second before some =
    let then = with_word (word (at + 4) port.0) now in
    let size_then = length_with (word (at + 4) port.0) now (omega (arith, size)) in
    let there : word_at now (at + 4) ≡ word_at d (at + 4) = same (at + 4) (omega arith) in
    let a = moves_word sum (length d) (at + 4) port.0 now first size (rw there (word_small (at + 4) d are)) small in
    let brought : 0 + difference (word_at d (at + 4)) port.0 ≡ difference (word_at d (at + 4)) port.0 = omega arith in
    let b = subst (λ (n : ℕ). Moves sum d then n) brought (moves_then sum d now then 0 (difference (word_at d (at + 4)) port.0) moved (subst (λ (n : ℕ). Moves sum now then (difference n port.0)) there a)) in
    let kept : word_at then (at + 2) ≡ word_at d (at + 2) = kept_before (at + 4) port.0 (at + 2) now (omega (arith, size)) (omega arith) ∙ same (at + 2) (omega arith) in
    mending sum (length d) (at + 2) (difference (word_at d (at + 4)) port.0) d then second refl (size_then ∙ size) b kept (word_small (at + 2) d are) before some

-- ---- which words each sum is over

abbrev segment : ℕ → ℕ → ℕ → List ℕ → ℕ
segment from n more bytes = part_sum 12 8 bytes + more + part_sum from n bytes

address_covered : (from n more size : ℕ) (end : End) → 20 ≤ from → 20 ≤ size → Covers (segment from n more) size (0 + address_place end)
address_covered from n more size Source over room = covers_first _ _ size 12 (covers_with _ more size 12 (covers 12 8 0 size 12 (omega arith) (omega arith) (omega arith))) (passes_before from n size 12 (omega arith) (omega arith))
address_covered from n more size Destination over room = covers_first _ _ size 16 (covers_with _ more size 16 (covers 12 8 2 size 16 (omega arith) (omega arith) (omega arith))) (passes_before from n size 16 (omega arith) (omega arith))

low_covered : (from n more size : ℕ) (end : End) → 20 ≤ from → 20 ≤ size → Covers (segment from n more) size (0 + address_place end + 2)
low_covered from n more size Source over room = covers_first _ _ size 14 (covers_with _ more size 14 (covers 12 8 1 size 14 (omega arith) (omega arith) (omega arith))) (passes_before from n size 14 (omega arith) (omega arith))
low_covered from n more size Destination over room = covers_first _ _ size 18 (covers_with _ more size 18 (covers 12 8 3 size 18 (omega arith) (omega arith) (omega arith))) (passes_before from n size 18 (omega arith) (omega arith))

checksum_passes : (from n more size : ℕ) → 20 ≤ from → 20 ≤ size → Passes (segment from n more) size (0 + 10)
checksum_passes from n more size over room = passes_both _ _ size 10 (passes_with _ more size 10 (passes_before 12 8 size 10 (omega arith) (omega arith))) (passes_before from n size 10 (omega arith) (omega arith))

carried_covered : (from n more size k place : ℕ) → 20 ≤ from → place ≡ from + 2 * k → 2 * k + 2 ≤ n → place + 2 ≤ size → Covers (segment from n more) size place
carried_covered from n more size k place over at within room = covers_second _ _ size place (passes_with _ more size place (passes_behind 12 8 size place (omega (arith, at)) room)) (covers from n k size place at within room)

port_covered : (from n more size : ℕ) (end : End) → 20 ≤ from → 4 ≤ n → from + 4 ≤ size → Covers (segment from n more) size (from + port_place end)
port_covered from n more size Source over within room = carried_covered from n more size 0 (from + 0) over (omega arith) (omega arith) (omega arith)
port_covered from n more size Destination over within room = carried_covered from n more size 1 (from + 2) over (omega arith) (omega arith) (omega arith)

-- ---- a TCP or UDP packet, and an echo

-- what a packet's view says of the length of what it carries
tcp_room : (d : List ℕ) (p : Packet) (t : TcpHeader) → packet_of p.sender d ≡ Some p → p.transport ≡ Tcp t → (20 ≤ p.total_length - p.header_length) × (p.protocol.0 ≡ 6)
tcp_room d p t there is =
    let all = packet_by d p there in
    let tcp = subst (λ (x : Transport). IsTransport (slice_index d 9) (is_fragment d) (total_length_of d - header_length_of d) (drop (header_length_of d) d) x) is all.transport in
    let header = all.header.header_length in
    let total = all.header.total_length in
    let least = tcp.2.at_least in
    let most = tcp.2.within_total in
    (omega arith, all.header.protocol ∙ tcp.1)

udp_room : (d : List ℕ) (p : Packet) (u : UdpHeader) → packet_of p.sender d ≡ Some p → p.transport ≡ Udp u → 8 ≤ p.total_length - p.header_length
udp_room d p u there is =
    let all = packet_by d p there in
    let udp = subst (λ (x : Transport). IsTransport (slice_index d 9) (is_fragment d) (total_length_of d - header_length_of d) (drop (header_length_of d) d) x) is all.transport in
    let header = all.header.header_length in
    let total = all.header.total_length in
    let most = udp.2.within_total in
    omega arith

pub icmp_room : (d : List ℕ) (p : Packet) (i : IcmpHeader) → packet_of p.sender d ≡ Some p → p.transport ≡ Icmp i → 8 ≤ p.total_length - p.header_length
icmp_room d p i there is =
    let all = packet_by d p there in
    let icmp = subst (λ (x : Transport). IsTransport (slice_index d 9) (is_fragment d) (total_length_of d - header_length_of d) (drop (header_length_of d) d) x) is all.transport in
    let header = all.header.header_length in
    let total = all.header.total_length in
    let most = icmp.2.within_total in
    omega arith

-- behind an address that was written
pub same_behind : (d : List ℕ) (end : End) (address : Ipv4Address) (at : ℕ) → 20 ≤ at → 20 ≤ length d → SameFrom at d (with_words (header_words d 0 end address) d)
same_behind d end address at over room = λ place from. outside (header_words d 0 end address) d (0 + 10) (0 + 20) place (header_span d 0 end address) (omega arith) (inl (omega arith))

segment_moves : (d : List ℕ) (end : End) (address : Ipv4Address) (from n more : ℕ) → AreBytes d → 20 ≤ from → 20 ≤ length d → address.0 < 4294967296 → Moves (segment from n more) d (with_words (header_words d 0 end address) d) (difference_of d (address_words (address_place end) address))
segment_moves d end address from n more are over room small =
    let place : 0 + address_place end ≡ address_place end = omega arith in
    subst (λ (m : ℕ). Moves (segment from n more) d (with_words (header_words d 0 end address) d) (difference_of d (address_words m address))) place
    (header_moves (segment from n more) d 0 end address are (omega arith) small (address_covered from n more (length d) end over room) (low_covered from n more (length d) end over room) (checksum_passes from n more (length d) over room))

pub tcp_datagram : (d : List ℕ) (p : Packet) (end : End) (to : Endpoint) (t : TcpHeader) → packet_of p.sender d ≡ Some p → p.transport ≡ Tcp t → AreBytes d → to.address.0 < 4294967296 → to.port.0 < 65536 → Verifies (segment_sum d p) → Verifies (segment_sum (with_words (packet_words d p end to) d) p)
unfolding packet_words
tcp_datagram d p end to t there is are address port before =
    let from = p.header_length in
    let n = p.total_length - p.header_length in
    let room = header_room d p there in
    let long = room.0 in
    let within = room.1 in
    let carries = tcp_room d p t there is in
    let enough = carries.0 in
    let protocol = carries.1 in
    let fits : BehindFits (length d) from (Tcp t) = subst (BehindFits (length d) from) is (transport_room d p there) in
    let header = header_words d 0 end to.address in
    let now = with_words header d in
    let v = tcp_verifies (segment from n (p.protocol.0 + n)) d now from end (difference_of d (address_words (address_place end) to.address)) to.port (header_within d 0 end to.address (omega arith))
    (segment_moves d end to.address from n (p.protocol.0 + n) are long (omega arith) address) (same_behind d end to.address from long (omega arith)) are port fits
    (port_covered from n (p.protocol.0 + n) (length d) end long (omega arith) (omega (arith, fits))) (carried_covered from n (p.protocol.0 + n) (length d) 8 (from + 16) long (omega arith) (omega arith) (omega (arith, fits))) before (omega arith) in
    rw (is, with_append header (tcp_words d from end (difference_of d (address_words (address_place end) to.address)) to.port) d) v

pub udp_datagram : (d : List ℕ) (p : Packet) (end : End) (to : Endpoint) (u : UdpHeader) → packet_of p.sender d ≡ Some p → p.transport ≡ Udp u → AreBytes d → to.address.0 < 4294967296 → to.port.0 < 65536 → 0 < word_at d (p.header_length + 6) → Verifies (segment_sum d p) → Verifies (segment_sum (with_words (packet_words d p end to) d) p)
unfolding packet_words
udp_datagram d p end to u there is are address port some before =
    let from = p.header_length in
    let n = p.total_length - p.header_length in
    let room = header_room d p there in
    let long = room.0 in
    let within = room.1 in
    let enough = udp_room d p u there is in
    let fits : BehindFits (length d) from (Udp u) = subst (BehindFits (length d) from) is (transport_room d p there) in
    let header = header_words d 0 end to.address in
    let now = with_words header d in
    let v = udp_verifies (segment from n (p.protocol.0 + n)) d now from end (difference_of d (address_words (address_place end) to.address)) to.port (header_within d 0 end to.address (omega arith))
    (segment_moves d end to.address from n (p.protocol.0 + n) are long (omega arith) address) (same_behind d end to.address from long (omega arith)) are port fits
    (port_covered from n (p.protocol.0 + n) (length d) end long (omega arith) (omega (arith, fits))) (carried_covered from n (p.protocol.0 + n) (length d) 3 (from + 6) long (omega arith) (omega arith) (omega (arith, fits))) some before in
    rw (is, with_append header (udp_words d from end (difference_of d (address_words (address_place end) to.address)) to.port) d) v

-- if there is no UDP checksum there is none afterwards
pub no_checksum : (d : List ℕ) (p : Packet) (end : End) (to : Endpoint) (u : UdpHeader) → packet_of p.sender d ≡ Some p → p.transport ≡ Udp u → word_at d (p.header_length + 6) ≡ 0 → word_at (with_words (packet_words d p end to) d) (p.header_length + 6) ≡ 0
unfolding packet_words udp_words
no_checksum d p end to u there is none =
    let from = p.header_length in
    let room = header_room d p there in
    let long = room.0 in
    let fits : BehindFits (length d) from (Udp u) = subst (BehindFits (length d) from) is (transport_room d p there) in
    let header = header_words d 0 end to.address in
    let now = with_words header d in
    let most = port_most end in
    let size = header_within d 0 end to.address (omega (arith, fits)) in
    let addresses = difference_of d (address_words (address_place end) to.address) in
    let port = word (from + port_place end) to.port.0 in
    let size_then = length_with port now (omega (arith, size, fits)) in
    let stays : mended_udp (word_at d (from + 6)) (addresses + difference (word_at d (from + port_place end)) to.port.0) ≡ 0 = none_stays (word_at d (from + 6)) (addresses + difference (word_at d (from + port_place end)) to.port.0) none in
    let read = read_at (from + 6) (mended_udp (word_at d (from + 6)) (addresses + difference (word_at d (from + port_place end)) to.port.0)) (with_word port now) (omega (arith, size, size_then, fits)) (omega (arith, stays)) in
    rw (is, with_append header (udp_words d from end addresses to.port) d) (read ∙ stays)
