-- An ICMP error is seen, once it is rewritten, as the error about the translated packet: of all that its view reads only the
-- translated end is written, the error's own and the embedded packet's, and there stands what was written.
use Rattle.std.proofs.Common.{◌≡◌, ◌⊎◌, inl, inr, ◌≤◌, ◌<◌, ◌-◌, ◌+◌, ◌*◌, ◌/◌, ◌%◌, ℕ, Bool, true, false, eqb, cond, List, [], ◌∷◌, length, drop, slice_index, Option, Some, None, refl, sym, ◌∙◌, ap, subst, arith}
use Rattle.std.proofs.lemmas.List.{drop-drop, get_or-drop, length-drop}
use Rattle.byteorder.specs.Endian.{big_number}
use Rattle.pfr_net.specs.declared.address.Ipv4Address.{Ipv4Address}
use Rattle.pfr_net.specs.declared.endpoint.Endpoint.{Endpoint}
use Rattle.pfr_net.specs.declared.port.Port.{Port}
use Rattle.pfr_headers.specs.declared.change.Change.{Change}
use Rattle.pfr_headers.specs.declared.change.End.{End}
use Rattle.pfr_headers.specs.declared.change.End.TheVariants.{Source, Destination}
use Rattle.pfr_headers.specs.declared.icmp.IcmpHeader.{IcmpHeader}
use Rattle.pfr_headers.specs.declared.icmp.IcmpMessage.{IcmpMessage}
use Rattle.pfr_headers.specs.declared.icmp.IcmpMessage.TheVariants as message
use Rattle.pfr_headers.specs.declared.icmp.Inner.{Inner}
use Rattle.pfr_headers.specs.declared.packet.Packet.{Packet}
use Rattle.pfr_headers.specs.declared.packet.View.TheVariants.{Ipv4, Skip}
use Rattle.pfr_headers.specs.declared.transport.Transport.{Transport}
use Rattle.pfr_headers.specs.declared.transport.Transport.TheVariants.{Icmp}
use Rattle.pfr_headers.specs.Checksum.{Word, difference_of, with_word, with_words, word, word_at}
use Rattle.pfr_headers.specs.ErrorLaws.{goes_with, sent_from, sent_to, translated_error}
use Rattle.pfr_headers.specs.Laws.{of_end, of_other}
use Rattle.pfr_headers.specs.Rewriting.{address_place, address_words, echo_words, embedded_words, end_address, header_words, other_end, outer_words, port_place, rewritten, udp_words}
use Rattle.pfr_headers.specs.Transport.{InnerPorts, IsIcmp, IsInner, IsMessage, IsTransport}
use Rattle.pfr_headers.specs.View.{HoldsIpv4, IsPacket, header_length_of, is_fragment, place_of, total_length_of, view_of}
use Rattle.pfr_headers.proofs.CarriedLemmas.{datagram_at}
use Rattle.pfr_headers.proofs.ErrorBytesLemmas.{IsErrorIn, apart, embedded_behind, embedded_first_stay, embedded_header, ends_most, error_room, first_stay, front_lies, header_read, kind_stays, not_behind, not_echo_kind, not_embedded, not_own, not_port, number_words, other_side, own_checksum, span_length, unwritten, written, written_is}
use Rattle.pfr_headers.proofs.FieldLemmas.{datagram_length, frame_byte, frame_length}
use Rattle.pfr_headers.proofs.FrontLemmas.{Agree, agree_behind, holds_same, number_same, sender_same}
use Rattle.pfr_headers.proofs.RewritingLemmas.{address_most, embedded_span, header_span, packet_there, port_most, sender_there}
use Rattle.pfr_headers.proofs.StandingLemmas.{word_behind}
use Rattle.pfr_headers.proofs.VerifyingLemmas.{read_at}
use Rattle.pfr_headers.proofs.ViewLemmas.{packet_by, place_by, view_is}
use Rattle.pfr_headers.proofs.WordLemmas.{Beside, Spans, kept, kept_before, length_with, outside}

-- ---- what was written is read

-- the first of two words
first_read : (first second : Word) (bytes : List ℕ) → first.place + 2 ≤ length bytes → Beside (length bytes) first.place second → first.value < 65536 → word_at (with_words (first ∷ (second ∷ [])) bytes) first.place ≡ first.value
first_read first second bytes within beside small =
    let size = length_with first bytes within in
    kept second (with_word first bytes) first.place (rw size beside) ∙ read_at first.place first.value bytes within small

-- behind an embedded header: a port of TCP or UDP, or an echo's identifier
ported_read : (d bytes : List ℕ) (protocol at : ℕ) (end : End) (addresses : ℕ) (port : Port) → (protocol ≡ 6) ⊎ (protocol ≡ 17) → port.0 < 65536 → at + 8 ≤ length bytes → word_at (with_words (embedded_words d protocol at end addresses port) bytes) (at + port_place end) ≡ port.0
unfolding embedded_words udp_words
ported_read d bytes protocol at end addresses port (inl is) small room =
    let most = port_most end in
    rw is (read_at (at + port_place end) port.0 bytes (omega arith) small)
ported_read d bytes protocol at end addresses port (inr is) small room =
    let most = port_most end in
    rw is (first_read (word (at + port_place end) port.0) _ bytes (omega arith) (record { within = omega arith; beside = inr (omega arith) }) small)

echo_read : (d bytes : List ℕ) (protocol at : ℕ) (end : End) (addresses : ℕ) (port : Port) → protocol ≡ 1 → port.0 < 65536 → at + 8 ≤ length bytes → word_at (with_words (embedded_words d protocol at end addresses port) bytes) (at + 4) ≡ port.0
unfolding embedded_words echo_words
echo_read d bytes protocol at end addresses port is small room =
    rw is (first_read (word (at + 4) port.0) _ bytes (omega arith) (record { within = omega arith; beside = inl (omega arith) }) small)

address_place_is : (end : End) → (of_end end 12 16 ≡ address_place end) × (of_other end 12 16 ≡ address_place (other_end end)) × (of_other end 0 2 ≡ port_place (other_end end))
address_place_is Source = (refl, refl, refl)
address_place_is Destination = (refl, refl, refl)

-- the error's own address at the end, if it is the embedded packet's, and what stood there otherwise
own_read : (d bytes : List ℕ) (p : Packet) (inner : Inner) (end : End) (to : Endpoint) (same : Bool) → eqb (end_address end p.source p.destination).0 (end_address (other_end end) inner.source inner.destination).0 ≡ same → 20 ≤ length bytes → to.address.0 < 4294967296
    → ((place : ℕ) → place ≤ 18 → word_at bytes place ≡ word_at d place)
    → big_number 4 (drop (of_end end 12 16) (with_words (outer_words d p inner end to) bytes)) ≡ cond same to.address.0 (big_number 4 (drop (of_end end 12 16) d))
unfolding outer_words
own_read d bytes p inner end to true is room small kept_there =
    let place : ℕ = 0 + address_place end in
    let now = with_words (header_words d 0 end to.address) bytes in
    let words = header_read d bytes 0 end to.address room small in
    let high = words.0 in
    let low = words.1 in
    let at : of_end end 12 16 ≡ place = (address_place_is end).0 ∙ omega arith in
    rw is (ap (λ (n : ℕ). big_number 4 (drop n now)) at ∙ number_words place now ∙ omega (arith, high, low))
own_read d bytes p inner end to false is room small kept_there =
    let place : ℕ = of_end end 12 16 in
    let most = (ends_most end).1 in
    let high = kept_there place (omega arith) in
    let low = kept_there (place + 2) (omega arith) in
    let stays : 65536 * word_at bytes place + word_at bytes (place + 2) ≡ 65536 * word_at d place + word_at d (place + 2) = omega (arith, high, low) in
    rw is (number_words place bytes ∙ stays ∙ sym (number_words place d))

-- ---- the embedded packet afterwards

-- the error's own end is the other one of the embedded packet
abbrev embedded_translated : End → Endpoint → Inner → Inner
embedded_translated Source to inner = sent_to to inner
embedded_translated Destination to inner = sent_from to inner

inner_from : (now old : List ℕ) (inner : Inner) (source destination : Ipv4Address) (source_port destination_port : Port) → length now ≡ length old → Agree 0 10 now old → IsInner old inner → source.0 ≡ big_number 4 (drop 12 now) → destination.0 ≡ big_number 4 (drop 16 now)
    → InnerPorts (slice_index old 9) (drop (4 * (slice_index old 0 % 16)) now) source_port.0 destination_port.0
    → IsInner now (record inner { source = source; destination = destination; source_port = source_port; destination_port = destination_port })
inner_from now old inner source destination source_port destination_port size same is first second ports =
    let zeroth = same 0 (omega arith) (omega arith) in
    let protocol = same 9 (omega arith) (omega arith) in
    let part = number_same 2 6 0 10 now old same (omega arith) (omega arith) in
    record {
      version = rw zeroth is.version;
      header_length = rw zeroth is.header_length;
      at_least = rw zeroth is.at_least;
      captured = rw (zeroth, size) is.captured;
      first = rw part is.first;
      protocol = rw protocol is.protocol;
      source = first;
      destination = second;
      ports = rw (zeroth, protocol) ports;
    }

-- what is read behind the embedded header
record ReadsPorts (end : End) (protocol : ℕ) (port : Port) (now old : List ℕ) : Type 0 where
  ported : (protocol ≡ 6) ⊎ (protocol ≡ 17) → (word_at now (of_other end 0 2) ≡ port.0) × (word_at now (of_end end 0 2) ≡ word_at old (of_end end 0 2))
  echo : protocol ≡ 1 → (word_at now 4 ≡ port.0) × (slice_index now 0 ≡ slice_index old 0)

not_echo : (protocol : ℕ) → (protocol ≡ 6) ⊎ (protocol ≡ 17) → eqb protocol 1 ≡ false
not_echo protocol (inl is) = rw is refl
not_echo protocol (inr is) = rw is refl

no_echo : (protocol : ℕ) → (protocol ≡ 6) ⊎ (protocol ≡ 17) → protocol ≡ 1 → ⊥
no_echo protocol (inl is) one = absurd (omega arith)
no_echo protocol (inr is) one = absurd (omega arith)

is_one : (protocol : ℕ) → protocol ≡ 1 → eqb protocol 1 ≡ true
is_one protocol is = rw is refl

inner_translated : (end : End) (to : Endpoint) (now old : List ℕ) (inner : Inner) → length now ≡ length old → Agree 0 10 now old → IsInner old inner
    → big_number 4 (drop (of_other end 12 16) now) ≡ to.address.0 → big_number 4 (drop (of_end end 12 16) now) ≡ big_number 4 (drop (of_end end 12 16) old)
    → ReadsPorts end (slice_index old 9) to.port (drop (4 * (slice_index old 0 % 16)) now) (drop (4 * (slice_index old 0 % 16)) old)
    → InnerPorts (slice_index old 9) (drop (4 * (slice_index old 0 % 16)) old) inner.source_port.0 inner.destination_port.0
    → IsInner now (embedded_translated end to inner)
inner_translated Source to now old inner size same is new stays reads (inl (which, first, second)) =
    let read = reads.ported which in
    let none = ap (λ (n : ℕ). eqb n 1) is.protocol ∙ not_echo (slice_index old 9) which in
    rw none (inner_from now old inner inner.source to.address inner.source_port to.port size same is (is.source ∙ sym stays) (sym new) (inl (which, first ∙ sym read.1, sym read.0)))
inner_translated Source to now old inner size same is new stays reads (inr (which, kind, first, second)) =
    let read = reads.echo which in
    let one = ap (λ (n : ℕ). eqb n 1) is.protocol ∙ is_one (slice_index old 9) which in
    rw one (inner_from now old inner inner.source to.address to.port to.port size same is (is.source ∙ sym stays) (sym new) (inr (which, rw read.1 kind, sym read.0, refl)))
inner_translated Destination to now old inner size same is new stays reads (inl (which, first, second)) =
    let read = reads.ported which in
    let none = ap (λ (n : ℕ). eqb n 1) is.protocol ∙ not_echo (slice_index old 9) which in
    rw none (inner_from now old inner to.address inner.destination to.port inner.destination_port size same is (sym new) (is.destination ∙ sym stays) (inl (which, sym read.0, second ∙ sym read.1)))
inner_translated Destination to now old inner size same is new stays reads (inr (which, kind, first, second)) =
    let read = reads.echo which in
    let one = ap (λ (n : ℕ). eqb n 1) is.protocol ∙ is_one (slice_index old 9) which in
    rw one (inner_from now old inner to.address inner.destination to.port to.port size same is (sym new) (is.destination ∙ sym stays) (inr (which, rw read.1 kind, sym read.0, refl)))

-- ---- in the error's datagram

abbrev embedding : Change → ℕ
embedding change = change.packet.header_length + 8

-- the embedded packet before the error's own words are written
abbrev embedded_now : List ℕ → Change → Inner → List ℕ
embedded_now d change inner = with_words (embedded_behind d change.packet inner change.end change.to) (with_words (embedded_header d change.packet change.end change.to) d)

-- where its words lie
record WordsLie (d : List ℕ) (change : Change) (inner : Inner) : Type 0 where
  header : Spans (embedding change + 10) (embedding change + 20) (embedded_header d change.packet change.end change.to)
  header_length : length (with_words (embedded_header d change.packet change.end change.to) d) ≡ length d
  behind : Spans (embedding change + inner.header_length) (embedding change + inner.header_length + 8) (embedded_behind d change.packet inner change.end change.to)
  length_now : length (embedded_now d change inner) ≡ length d

lies : (d : List ℕ) (change : Change) (icmp : IcmpHeader) (inner : Inner) → IsErrorIn d change icmp inner → WordsLie d change inner
lies d change icmp inner e =
    let room = error_room d change icmp inner e in
    let long = room.1 in
    let most = room.2 in
    let at = embedding change in
    let header = header_span d at (other_end change.end) change.to.address in
    let size = span_length (embedded_header d change.packet change.end change.to) d (at + 10) (at + 20) header (omega arith) in
    let behind = embedded_span d inner.protocol.0 (at + inner.header_length) (other_end change.end) (difference_of d (address_words (at + address_place (other_end change.end)) change.to.address)) change.to.port in
    let size_now = span_length (embedded_behind d change.packet inner change.end change.to) (with_words (embedded_header d change.packet change.end change.to) d) (at + inner.header_length) (at + inner.header_length + 8) behind (omega (arith, size)) in
    record { header = header; header_length = size; behind = behind; length_now = size_now ∙ size }

-- a word of the embedded packet isn't written again
word_last : (d : List ℕ) (change : Change) (icmp : IcmpHeader) (inner : Inner) (place : ℕ) → IsErrorIn d change icmp inner → embedding change ≤ place → word_at (written d change) place ≡ word_at (embedded_now d change inner) place
word_last d change icmp inner place e from =
    let l = lies d change icmp inner e in
    let room = error_room d change icmp inner e in
    let most = room.2 in
    let size = l.length_now in
    ap (λ (t : List ℕ). word_at t place) (written_is d change icmp inner e)
    ∙ outside (own_checksum d change.packet inner change.end change.to ∷ outer_words d change.packet inner change.end change.to) (embedded_now d change inner) 10 (embedding change) place (front_lies d change.packet inner change.end change.to room.0) (omega (arith, size)) (inl from)

-- its new address
address_now : (d : List ℕ) (change : Change) (icmp : IcmpHeader) (inner : Inner) → IsErrorIn d change icmp inner → change.to.address.0 < 4294967296
    → big_number 4 (drop (of_other change.end 12 16) (drop (embedding change) (written d change))) ≡ change.to.address.0
address_now d change icmp inner e small =
    let room = error_room d change icmp inner e in
    let long = room.1 in
    let most = room.2 in
    let l = lies d change icmp inner e in
    let size = l.header_length in
    let at = embedding change in
    let end = other_end change.end in
    let far = address_most end in
    let place : ℕ = at + address_place end in
    let now = written d change in
    let first = with_words (embedded_header d change.packet change.end change.to) d in
    let behind = embedded_behind d change.packet inner change.end change.to in
    let words = header_read d d at end change.to.address (omega arith) small in
    let high : word_at now place ≡ change.to.address.0 / 65536 =
    word_last d change icmp inner place e (omega arith) ∙ outside behind first (at + inner.header_length) (at + inner.header_length + 8) place l.behind (omega (arith, size)) (inr (omega arith)) ∙ words.0 in
    let low : word_at now (place + 2) ≡ change.to.address.0 % 65536 =
    word_last d change icmp inner (place + 2) e (omega arith) ∙ outside behind first (at + inner.header_length) (at + inner.header_length + 8) (place + 2) l.behind (omega (arith, size)) (inr (omega arith)) ∙ words.1 in
    let there : drop (of_other change.end 12 16) (drop at now) ≡ drop place now = drop-drop (of_other change.end 12 16) at now ∙ ap (λ (n : ℕ). drop (at + n) now) (address_place_is change.end).1 in
    ap (λ (t : List ℕ). big_number 4 t) there ∙ number_words place now ∙ omega (arith, high, low)

-- its other address
address_stays : (d : List ℕ) (change : Change) (icmp : IcmpHeader) (inner : Inner) → IsErrorIn d change icmp inner
    → big_number 4 (drop (of_end change.end 12 16) (drop (embedding change) (written d change))) ≡ big_number 4 (drop (of_end change.end 12 16) (drop (embedding change) d))
address_stays d change icmp inner e =
    let room = error_room d change icmp inner e in
    let place : ℕ = of_end change.end 12 16 in
    number_same 4 place place (place + 4) (drop (embedding change) (written d change)) (drop (embedding change) d)
    (agree_behind (embedding change) place (place + 4) (written d change) d (λ byte low high. unwritten d change icmp inner byte e (not_embedded change.packet.header_length inner change.end byte room.0 room.1 low (omega arith))))
    (omega arith) (omega arith)

-- its ports, or its identifier
ports_now : (d : List ℕ) (change : Change) (icmp : IcmpHeader) (inner : Inner) → IsErrorIn d change icmp inner → change.to.port.0 < 65536
    → ReadsPorts change.end inner.protocol.0 change.to.port (drop inner.header_length (drop (embedding change) (written d change))) (drop inner.header_length (drop (embedding change) d))
ports_now d change icmp inner e small =
    let room = error_room d change icmp inner e in
    let long = room.1 in
    let most = room.2 in
    let l = lies d change icmp inner e in
    let size = l.header_length in
    let at = embedding change in
    let from : ℕ = at + inner.header_length in
    let now = written d change in
    let first = with_words (embedded_header d change.packet change.end change.to) d in
    let brought = difference_of d (address_words (at + address_place (other_end change.end)) change.to.address) in
    let behind_now : drop inner.header_length (drop at now) ≡ drop from now = drop-drop inner.header_length at now in
    let behind : drop inner.header_length (drop at d) ≡ drop from d = drop-drop inner.header_length at d in
    let near = (ends_most change.end).2 in
    record {
      ported = λ which. (
        ap (λ (t : List ℕ). word_at t (of_other change.end 0 2)) behind_now
            ∙ word_behind from (of_other change.end 0 2) now
            ∙ ap (λ (n : ℕ). word_at now (from + n)) (address_place_is change.end).2
            ∙ word_last d change icmp inner (from + port_place (other_end change.end)) e (omega arith)
            ∙ ported_read d first inner.protocol.0 from (other_end change.end) brought change.to.port which small (omega (arith, size)),
        number_same 2 (of_end change.end 0 2) (of_end change.end 0 2) (of_end change.end 0 2 + 2) (drop inner.header_length (drop at now)) (drop inner.header_length (drop at d))
            (rw (behind_now, behind) (agree_behind from (of_end change.end 0 2) (of_end change.end 0 2 + 2) now d
            (λ byte low high. unwritten d change icmp inner byte e (not_behind change.packet.header_length inner change.end byte room.0 room.1 (omega arith)
            (not_port inner.protocol.0 from (of_other change.end 0 2) (of_end change.end 0 2) byte (no_echo inner.protocol.0 which) near (other_side (of_end change.end 0 2) (of_other change.end 0 2) 2 (apart change.end).1) low (omega arith))))))
            (omega arith) (omega arith),
      );
      echo = λ which. (
        ap (λ (t : List ℕ). word_at t 4) behind_now
            ∙ word_behind from 4 now
            ∙ word_last d change icmp inner (from + 4) e (omega arith)
            ∙ echo_read d first inner.protocol.0 from (other_end change.end) brought change.to.port which small (omega (arith, size)),
        ap (λ (t : List ℕ). slice_index t 0) behind_now
            ∙ agree_behind from 0 1 now d
            (λ byte low high. unwritten d change icmp inner byte e (not_behind change.packet.header_length inner change.end byte room.0 room.1 (omega arith)
            (not_echo_kind inner.protocol.0 from (of_other change.end 0 2) byte which (omega arith)))) 0 (omega arith) (omega arith)
            ∙ sym (ap (λ (t : List ℕ). slice_index t 0) behind),
      );
    }

-- the embedded packet is the translated one
embedded_there : (d : List ℕ) (change : Change) (icmp : IcmpHeader) (inner : Inner) → IsErrorIn d change icmp inner → change.to.address.0 < 4294967296 → change.to.port.0 < 65536
    → IsInner (drop (embedding change) d) inner → IsInner (drop (embedding change) (written d change)) (embedded_translated change.end change.to inner)
embedded_there d change icmp inner e small_address small_port is =
    let at = embedding change in
    let now = drop at (written d change) in
    let old = drop at d in
    let size : length now ≡ length old = length-drop at (written d change) ∙ ap (λ (n : ℕ). n - at) (datagram_length d change e.there) ∙ sym (length-drop at d) in
    let ports = subst (λ (n : ℕ). ReadsPorts change.end n change.to.port (drop inner.header_length now) (drop inner.header_length old)) is.protocol (ports_now d change icmp inner e small_port) in
    inner_translated change.end change.to now old inner size (embedded_first_stay d change icmp inner e) is (address_now d change icmp inner e small_address) (address_stays d change icmp inner e)
    (subst (λ (n : ℕ). ReadsPorts change.end (slice_index old 9) change.to.port (drop n now) (drop n old)) is.header_length ports) is.ports

-- the message about it
icmp_translated : (whole : ℕ) (now old : List ℕ) (icmp : IcmpHeader) (inner new : Inner) → length now ≡ length old → Agree 0 2 now old → icmp.message ≡ message.Error inner → (IsInner (drop 8 old) inner → IsInner (drop 8 now) new) → IsIcmp whole old icmp → IsIcmp whole now (record icmp { message = message.Error new })
icmp_translated whole now old icmp inner new size same error there is =
    let kind = same 0 (omega arith) (omega arith) in
    let code = same 1 (omega arith) (omega arith) in
    let embedding_one = subst (λ (m : IcmpMessage). IsMessage (slice_index old 0) old m) error is.message in
    record {
      captured = rw size is.captured;
      within_total = is.within_total;
      kind = rw kind is.kind;
      code = rw code is.code;
      message = rw kind (embedding_one.0, there embedding_one.1);
    }

-- and the packet with it
packet_from : (p : Packet) (now d : List ℕ) (source destination : Ipv4Address) (old new : IcmpHeader) → length now ≡ length d → Agree 0 10 now d → source.0 ≡ big_number 4 (drop 12 now) → destination.0 ≡ big_number 4 (drop 16 now) → p.transport ≡ Icmp old
    → (IsIcmp (total_length_of d - header_length_of d) (drop (header_length_of d) d) old → IsIcmp (total_length_of d - header_length_of d) (drop (header_length_of d) now) new)
    → IsPacket d p → IsPacket now (record p { source = source; destination = destination; transport = Icmp new })
packet_from p now d source destination old new size front first_is second_is kind behind is =
    let h = is.header in
    let first = front 0 (omega arith) (omega arith) in
    let total = number_same 2 2 0 10 now d front (omega arith) (omega arith) in
    let part = number_same 2 6 0 10 now d front (omega arith) (omega arith) in
    let protocol = front 9 (omega arith) (omega arith) in
    let t = subst (λ (x : Transport). IsTransport (slice_index d 9) (is_fragment d) (total_length_of d - header_length_of d) (drop (header_length_of d) d) x) kind is.transport in
    record {
      header = record {
        version = rw first h.version;
        header_length = rw first h.header_length;
        at_least = rw first h.at_least;
        captured = rw (first, size) h.captured;
        total_length = h.total_length ∙ sym total;
        within_total = rw (first, total) h.within_total;
        protocol = rw protocol h.protocol;
        source = first_is;
        destination = second_is;
      };
      transport = rw (first, total, part, protocol) (t.0, t.1, behind t.2);
    }

-- the error's other address
own_stays : (d : List ℕ) (change : Change) (icmp : IcmpHeader) (inner : Inner) → IsErrorIn d change icmp inner → big_number 4 (drop (of_other change.end 12 16) (written d change)) ≡ big_number 4 (drop (of_other change.end 12 16) d)
own_stays d change icmp inner e =
    let place : ℕ = of_other change.end 12 16 in
    number_same 4 place place (place + 4) (written d change) d (λ byte low high. unwritten d change icmp inner byte e (not_own change.packet.header_length inner change.end byte (error_room d change icmp inner e).0 low high)) (omega arith) (omega arith)

-- its address at the translated end
own_now : (d : List ℕ) (change : Change) (icmp : IcmpHeader) (inner : Inner) (same : Bool) → eqb (end_address change.end change.packet.source change.packet.destination).0 (end_address (other_end change.end) inner.source inner.destination).0 ≡ same → IsErrorIn d change icmp inner → change.to.address.0 < 4294967296
    → big_number 4 (drop (of_end change.end 12 16) (written d change)) ≡ cond same change.to.address.0 (big_number 4 (drop (of_end change.end 12 16) d))
own_now d change icmp inner same is e small =
    let room = error_room d change icmp inner e in
    let long = room.0 in
    let more = room.1 in
    let most = room.2 in
    let l = lies d change icmp inner e in
    let size = l.header_length in
    let size_now = l.length_now in
    let at = embedding change in
    let first = with_words (embedded_header d change.packet change.end change.to) d in
    let second = embedded_now d change inner in
    let checksum = own_checksum d change.packet inner change.end change.to in
    let size_then = length_with checksum second (omega (arith, size_now)) in
    ap (λ (t : List ℕ). big_number 4 (drop (of_end change.end 12 16) t)) (written_is d change icmp inner e)
    ∙ own_read d (with_word checksum second) change.packet inner change.end change.to same is (omega (arith, size_now, size_then)) small
    (λ place before.
    kept_before (change.packet.header_length + 2) checksum.value place second (omega (arith, size_now)) (omega arith)
    ∙ outside (embedded_behind d change.packet inner change.end change.to) first (at + inner.header_length) (at + inner.header_length + 8) place l.behind (omega (arith, size)) (inr (omega arith))
    ∙ outside (embedded_header d change.packet change.end change.to) d (at + 10) (at + 20) place l.header (omega arith) (inr (omega arith)))

-- an address that goes with another, by its number
goes : (own embedded new : Ipv4Address) (number : ℕ) (same : Bool) → eqb own.0 embedded.0 ≡ same → own.0 ≡ number → (goes_with own embedded new).0 ≡ cond same new.0 number
goes own embedded new number true is e = rw is refl
goes own embedded new number false is e = rw is e

-- what stands behind the error's header
behind_there : (d : List ℕ) (change : Change) (icmp : IcmpHeader) (inner : Inner) (whole : ℕ) → IsErrorIn d change icmp inner → change.to.address.0 < 4294967296 → change.to.port.0 < 65536
    → IsIcmp whole (drop (header_length_of d) d) icmp → IsIcmp whole (drop (header_length_of d) (written d change)) (record icmp { message = message.Error (embedded_translated change.end change.to inner) })
behind_there d change icmp inner whole e small_address small_port is =
    let from = header_length_of d in
    let now = written d change in
    let h = (packet_by d change.packet e.there).header in
    let own = change.packet.header_length in
    let size : length (drop from now) ≡ length (drop from d) = length-drop from now ∙ ap (λ (n : ℕ). n - from) (datagram_length d change e.there) ∙ sym (length-drop from d) in
    let kind = agree_behind own 0 2 now d (λ byte low high. kind_stays d change icmp inner e byte (omega arith) high) in
    let old : drop 8 (drop from d) ≡ drop (own + 8) d = drop-drop 8 from d ∙ ap (λ (n : ℕ). drop (n + 8) d) (sym h.header_length) in
    let new : drop 8 (drop from now) ≡ drop (own + 8) now = drop-drop 8 from now ∙ ap (λ (n : ℕ). drop (n + 8) now) (sym h.header_length) in
    icmp_translated whole (drop from now) (drop from d) icmp inner (embedded_translated change.end change.to inner) size
    (subst (λ (n : ℕ). Agree 0 2 (drop n now) (drop n d)) h.header_length kind) e.is_error
    (λ i. subst (λ (t : List ℕ). IsInner t (embedded_translated change.end change.to inner)) (sym new) (embedded_there d change icmp inner e small_address small_port (subst (λ (t : List ℕ). IsInner t inner) old i))) is

datagram_translated : (d : List ℕ) (p : Packet) (end : End) (to : Endpoint) (icmp : IcmpHeader) (inner : Inner) → IsErrorIn d (record { packet = p; end = end; to = to }) icmp inner → to.address.0 < 4294967296 → to.port.0 < 65536 → IsPacket (written d (record { packet = p; end = end; to = to })) (translated_error end to p icmp inner)
datagram_translated d p Source to icmp inner e small_address small_port =
    let change : Change = record { packet = p; end = Source; to = to } in
    let is = packet_by d p e.there in
    let same = eqb p.source.0 inner.destination.0 in
    packet_from p (written d change) d (goes_with p.source inner.destination to.address) p.destination icmp (record icmp { message = message.Error (sent_to to inner) }) (datagram_length d change e.there) (first_stay d change icmp inner e)
    (goes p.source inner.destination to.address (big_number 4 (drop 12 d)) same refl is.header.source ∙ sym (own_now d change icmp inner same refl e small_address))
    (is.header.destination ∙ sym (own_stays d change icmp inner e)) e.is_icmp (behind_there d change icmp inner _ e small_address small_port) is
datagram_translated d p Destination to icmp inner e small_address small_port =
    let change : Change = record { packet = p; end = Destination; to = to } in
    let is = packet_by d p e.there in
    let same = eqb p.destination.0 inner.source.0 in
    packet_from p (written d change) d p.source (goes_with p.destination inner.source to.address) icmp (record icmp { message = message.Error (sent_from to inner) }) (datagram_length d change e.there) (first_stay d change icmp inner e)
    (is.header.source ∙ sym (own_stays d change icmp inner e))
    (goes p.destination inner.source to.address (big_number 4 (drop 16 d)) same refl is.header.destination ∙ sym (own_now d change icmp inner same refl e small_address)) e.is_icmp (behind_there d change icmp inner _ e small_address small_port) is

-- ---- in the frame

error_sender : (end : End) (to : Endpoint) (p : Packet) (icmp : IcmpHeader) (inner : Inner) → (translated_error end to p icmp inner).sender ≡ p.sender
error_sender Source to p icmp inner = refl
error_sender Destination to p icmp inner = refl

frame_error_at : (link : ℕ) (bytes : List ℕ) (change : Change) (icmp : IcmpHeader) (inner : Inner) (found : Option ℕ) → place_of link bytes ≡ found → view_of link bytes ≡ Ipv4 change.packet → change.packet.transport ≡ Icmp icmp → icmp.message ≡ message.Error inner → change.to.address.0 < 4294967296 → change.to.port.0 < 65536
    → view_of link (rewritten link change bytes) ≡ Ipv4 (translated_error change.end change.to change.packet icmp inner)
unfolding view_of
frame_error_at link bytes change icmp inner None at is is_icmp is_error small_address small_port =
    absurd (let e : Skip ≡ Ipv4 change.packet = rw at at is in cc)
frame_error_at link bytes change icmp inner (Some place) at is is_icmp is_error small_address small_port =
    let d = drop place bytes in
    let now = rewritten link change bytes in
    let e : IsErrorIn d change icmp inner = record { there = packet_there link place bytes change.packet at is; is_icmp = is_icmp; is_error = is_error } in
    let after = datagram_at link place bytes change is at in
    let front : Agree 0 place now bytes = λ byte low high. frame_byte link bytes change place byte is at (λ behind. absurd (omega arith)) in
    let begin : place + 0 ≡ place = omega arith in
    let first : slice_index now place ≡ slice_index bytes place =
    subst (λ (n : ℕ). slice_index now n ≡ slice_index bytes n) begin
    (sym (get_or-drop place now 0 0) ∙ ap (λ (t : List ℕ). slice_index t 0) after ∙ first_stay d change icmp inner e 0 (omega arith) (omega arith) ∙ get_or-drop place bytes 0 0) in
    let holds = holds_same link now bytes place (frame_length link bytes change is) front first (place_by link bytes place at) in
    let packet : IsPacket (drop place now) (translated_error change.end change.to change.packet icmp inner) = rw after (datagram_translated d change.packet change.end change.to icmp inner e small_address small_port) in
    let sender = error_sender change.end change.to change.packet icmp inner ∙ sender_there link place bytes change.packet at is ∙ sym (sender_same link now bytes place (frame_length link bytes change is) front (place_by link bytes place at)) in
    sym (view_is link now (Ipv4 (translated_error change.end change.to change.packet icmp inner)) (place, holds, packet, sender))

pub frame_error : (link : ℕ) (bytes : List ℕ) (change : Change) (icmp : IcmpHeader) (inner : Inner) → view_of link bytes ≡ Ipv4 change.packet → change.packet.transport ≡ Icmp icmp → icmp.message ≡ message.Error inner → change.to.address.0 < 4294967296 → change.to.port.0 < 65536
    → view_of link (rewritten link change bytes) ≡ Ipv4 (translated_error change.end change.to change.packet icmp inner)
frame_error link bytes change icmp inner is is_icmp is_error small_address small_port = frame_error_at link bytes change icmp inner _ refl is is_icmp is_error small_address small_port
