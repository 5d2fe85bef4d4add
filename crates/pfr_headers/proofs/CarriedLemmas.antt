-- The checksums of what a packet carries still verify after it is rewritten, in its frame.
use Rattle.std.proofs.Common.{◌≡◌, ◌<◌, ◌+◌, ◌*◌, ◌%◌, ◌++◌, ℕ, List, [], length, take, drop, slice_index, Some, None, refl, sym, ◌∙◌, ap, subst, arith}
use Rattle.std.proofs.lemmas.List.{length-take-le}
use Rattle.std.proofs.Math.Seq.{drop-append_seam}
use Rattle.pfr_headers.specs.declared.change.Change.{Change}
use Rattle.pfr_headers.specs.declared.icmp.IcmpHeader.{IcmpHeader}
use Rattle.pfr_headers.specs.declared.icmp.IcmpMessage.{IcmpMessage}
use Rattle.pfr_headers.specs.declared.icmp.IcmpMessage.TheVariants as message
use Rattle.pfr_headers.specs.declared.icmp.Inner.{Inner}
use Rattle.pfr_headers.specs.declared.packet.View.TheVariants.{Ipv4}
use Rattle.pfr_headers.specs.declared.tcp.TcpHeader.{TcpHeader}
use Rattle.pfr_headers.specs.declared.transport.Transport.{Transport}
use Rattle.pfr_headers.specs.declared.transport.Transport.TheVariants.{Tcp, Udp, Icmp}
use Rattle.pfr_headers.specs.declared.udp.UdpHeader.{UdpHeader}
use Rattle.pfr_headers.specs.Checksum.{AreBytes, Verifies, Word, with_words, word_at}
use Rattle.pfr_headers.specs.Laws.{CarriesEmbedded, IsTranslated, message_sum, segment_sum}
use Rattle.pfr_headers.specs.Rewriting.{echo_words, error_words, header_words, packet_words, rewritten, embedded_in, words_of}
use Rattle.pfr_headers.specs.Room.{BehindFits}
use Rattle.pfr_headers.specs.View.{header_length_of, packet_of, place_of, view_of}
use Rattle.pfr_headers.proofs.FieldLemmas.{inner_known}
use Rattle.pfr_headers.proofs.RewritingLemmas.{header_room, header_span, inner_room, inner_there, packet_there, transport_room}
use Rattle.pfr_headers.proofs.VerifyingLemmas.{bytes_behind, header_within, place_within}
use Rattle.pfr_headers.proofs.ViewLemmas.{place_by}
use Rattle.pfr_headers.proofs.WordLemmas.{with_append}
use Rattle.pfr_headers.proofs.SegmentLemmas.{icmp_room, no_checksum, same_behind, tcp_datagram, udp_datagram}
use Rattle.pfr_headers.proofs.MessageLemmas.{echo_datagram, error_datagram, message_same}

-- ---- in the frame

pub datagram_at : (link place : ℕ) (bytes : List ℕ) (change : Change) → view_of link bytes ≡ Ipv4 change.packet → place_of link bytes ≡ Some place → drop place (rewritten link change bytes) ≡ with_words (words_of (drop place bytes) change) (drop place bytes)
unfolding rewritten
datagram_at link place bytes change is at =
    let d = drop place bytes in
    let within = place_within link bytes place (place_by link bytes place at) in
    let new = with_words (words_of d change) d in
    rw at (subst (λ (n : ℕ). drop n (take place bytes ++ new) ≡ new) (length-take-le place bytes within) (drop-append_seam (take place bytes) new))

-- no other packet is embedded
pub alone : (d : List ℕ) (change : Change) → embedded_in change.packet.transport ≡ None → words_of d change ≡ packet_words d change.packet change.end change.to
unfolding words_of
alone d change none = rw none refl

embedding : (d : List ℕ) (change : Change) (inner : Inner) → embedded_in change.packet.transport ≡ Some inner → words_of d change ≡ error_words d change.packet inner change.end change.to
unfolding words_of
embedding d change inner is = rw is refl

embedded_of_tcp : (t : Transport) (x : TcpHeader) → t ≡ Tcp x → embedded_in t ≡ None
embedded_of_tcp t x is = rw is refl

embedded_of_udp : (t : Transport) (x : UdpHeader) → t ≡ Udp x → embedded_in t ≡ None
embedded_of_udp t x is = rw is refl

-- the datagram after a change of a packet that embeds no other
rewritten_alone : (link place : ℕ) (bytes : List ℕ) (change : Change) → IsTranslated link bytes change place → embedded_in change.packet.transport ≡ None → drop place (rewritten link change bytes) ≡ with_words (packet_words (drop place bytes) change.packet change.end change.to) (drop place bytes)
rewritten_alone link place bytes change is none = datagram_at link place bytes change is.view is.begins ∙ ap (λ (ws : List Word). with_words ws (drop place bytes)) (alone (drop place bytes) change none)

pub frame_tcp : (link place : ℕ) (bytes : List ℕ) (change : Change) (t : TcpHeader) → IsTranslated link bytes change place → change.packet.transport ≡ Tcp t → Verifies (segment_sum (drop place bytes) change.packet) → Verifies (segment_sum (drop place (rewritten link change bytes)) change.packet)
frame_tcp link place bytes change t is kind before =
    let d = drop place bytes in
    let there = packet_there link place bytes change.packet is.begins is.view in
    rw (rewritten_alone link place bytes change is (embedded_of_tcp change.packet.transport t kind))
    (tcp_datagram d change.packet change.end change.to t there kind (bytes_behind place bytes is.are_bytes) is.address is.port before)

pub frame_udp : (link place : ℕ) (bytes : List ℕ) (change : Change) (u : UdpHeader) → IsTranslated link bytes change place → change.packet.transport ≡ Udp u → 0 < word_at (drop place bytes) (change.packet.header_length + 6) → Verifies (segment_sum (drop place bytes) change.packet) → Verifies (segment_sum (drop place (rewritten link change bytes)) change.packet)
frame_udp link place bytes change u is kind some before =
    let d = drop place bytes in
    let there = packet_there link place bytes change.packet is.begins is.view in
    rw (rewritten_alone link place bytes change is (embedded_of_udp change.packet.transport u kind))
    (udp_datagram d change.packet change.end change.to u there kind (bytes_behind place bytes is.are_bytes) is.address is.port some before)

pub frame_unsummed : (link place : ℕ) (bytes : List ℕ) (change : Change) (u : UdpHeader) → IsTranslated link bytes change place → change.packet.transport ≡ Udp u → word_at (drop place bytes) (change.packet.header_length + 6) ≡ 0 → word_at (drop place (rewritten link change bytes)) (change.packet.header_length + 6) ≡ 0
frame_unsummed link place bytes change u is kind none =
    let d = drop place bytes in
    let there = packet_there link place bytes change.packet is.begins is.view in
    rw (rewritten_alone link place bytes change is (embedded_of_udp change.packet.transport u kind)) (no_checksum d change.packet change.end change.to u there kind none)

-- by the message
message_verifies : (d : List ℕ) (change : Change) (i : IcmpHeader) (m : IcmpMessage) → packet_of change.packet.sender d ≡ Some change.packet → change.packet.transport ≡ Icmp i → i.message ≡ m → AreBytes d → change.to.address.0 < 4294967296 → change.to.port.0 < 65536 → CarriesEmbedded change.packet m
    → Verifies (message_sum d change.packet) → 0 < message_sum (with_words (words_of d change) d) change.packet → Verifies (message_sum (with_words (words_of d change) d) change.packet)
unfolding packet_words
message_verifies d change i (message.Echo identifier) there kind is are address port carries before some =
    let p = change.packet in
    let to = change.to in
    let room = header_room d p there in
    let long = room.0 in
    let fits : BehindFits (length d) p.header_length (Icmp i) = subst (BehindFits (length d) p.header_length) kind (transport_room d p there) in
    let header = header_words d 0 change.end to.address in
    let now = with_words header d in
    let none : embedded_in p.transport ≡ None = rw (kind, is) refl in
    let joined : with_words (words_of d change) d ≡ with_words (echo_words d p.header_length to.port) now =
    ap (λ (ws : List Word). with_words ws d) (alone d change none)
    ∙ (rw (kind, is) (with_append header (echo_words d p.header_length to.port) d)) in
    let same = message_same header d p (0 + 10) (0 + 20) (header_span d 0 change.end to.address) (omega arith) (omega (arith, fits)) in
    let v = echo_datagram d p to.port now are (header_within d 0 change.end to.address (omega (arith, fits))) same (same_behind d change.end to.address p.header_length long (omega (arith, fits))) fits (icmp_room d p i there kind) port before
    (subst (λ (t : List ℕ). 0 < message_sum t p) joined some) in
    subst (λ (t : List ℕ). Verifies (message_sum t p)) (sym joined) v
message_verifies d change i (message.Error inner) there kind is are address port carries before some =
    let p = change.packet in
    let embedded : embedded_in p.transport ≡ Some inner = rw (kind, is) refl in
    let fits = inner_room d p inner there embedded in
    let e = drop 8 (drop (header_length_of d) d) in
    let even = (inner_there d p inner there embedded).header_length in
    let joined = ap (λ (ws : List Word). with_words ws d) (embedding d change inner embedded) in
    let v = error_datagram d p inner (2 * (slice_index e 0 % 16)) change.end change.to are (inner_known d p inner there embedded) (omega (arith, even)) (header_room d p there).0 fits.header carries fits.behind address port before
    (subst (λ (t : List ℕ). 0 < message_sum t p) joined some) in
    subst (λ (t : List ℕ). Verifies (message_sum t p)) (sym joined) v
message_verifies d change i message.Other there kind is are address port carries before some =
    let p = change.packet in
    let to = change.to in
    let room = header_room d p there in
    let long = room.0 in
    let most = room.1 in
    let header = header_words d 0 change.end to.address in
    let none : embedded_in p.transport ≡ None = rw (kind, is) refl in
    let joined : with_words (words_of d change) d ≡ with_words header d =
    ap (λ (ws : List Word). with_words ws d) (alone d change none)
    ∙ (rw (kind, is) (with_append header [] d)) in
    let same = message_same header d p (0 + 10) (0 + 20) (header_span d 0 change.end to.address) (omega arith) (omega arith) in
    subst Verifies (sym (ap (λ (t : List ℕ). message_sum t p) joined ∙ same)) before

pub frame_icmp : (link place : ℕ) (bytes : List ℕ) (change : Change) (i : IcmpHeader) → IsTranslated link bytes change place → change.packet.transport ≡ Icmp i → CarriesEmbedded change.packet i.message → Verifies (message_sum (drop place bytes) change.packet)
    → 0 < message_sum (drop place (rewritten link change bytes)) change.packet → Verifies (message_sum (drop place (rewritten link change bytes)) change.packet)
frame_icmp link place bytes change i is kind carries before some =
    let d = drop place bytes in
    let there = packet_there link place bytes change.packet is.begins is.view in
    let joined = datagram_at link place bytes change is.view is.begins in
    let v = message_verifies d change i i.message there kind refl (bytes_behind place bytes is.are_bytes) is.address is.port carries before
    (subst (λ (t : List ℕ). 0 < message_sum t change.packet) joined some) in
    subst (λ (t : List ℕ). Verifies (message_sum t change.packet)) (sym joined) v
