-- What a translation doesn't write stays.
use Rattle.std.specs.Prelude.{⊤}
use Rattle.std.proofs.Common.{◌≡◌, ◌⊎◌, inl, inr, ◌≤◌, ◌<◌, ◌-◌, ◌+◌, ◌*◌, ◌%◌, ◌++◌, ℕ, Bool, true, false, eqb, List, [], ◌∷◌, length, take, drop, slice_index, Option, Some, None, refl, sym, ◌∙◌, ap, subst, arith}
use Rattle.std.proofs.lemmas.Bool.{cases_lt, cases_order}
use Rattle.std.proofs.lemmas.List.{get_or-append-add, get_or-drop, get_or-take, get_or_append_left, length-append, length-drop, length-take-le}
use Rattle.byteorder.specs.Endian.{big_bytes}
use Rattle.pfr_net.specs.declared.address.Ipv4Address.{Ipv4Address}
use Rattle.pfr_net.specs.declared.endpoint.Endpoint.{Endpoint}
use Rattle.pfr_net.specs.declared.port.Port.{Port}
use Rattle.pfr_headers.specs.declared.change.Change.{Change}
use Rattle.pfr_headers.specs.declared.change.End.{End}
use Rattle.pfr_headers.specs.declared.change.End.TheVariants.{Source, Destination}
use Rattle.pfr_headers.specs.declared.icmp.IcmpMessage.{IcmpMessage}
use Rattle.pfr_headers.specs.declared.icmp.IcmpMessage.TheVariants as message
use Rattle.pfr_headers.specs.declared.icmp.Inner.{Inner}
use Rattle.pfr_headers.specs.declared.packet.Packet.{Packet}
use Rattle.pfr_headers.specs.declared.packet.View.TheVariants.{Ipv4}
use Rattle.pfr_headers.specs.declared.transport.Transport.{Transport}
use Rattle.pfr_headers.specs.declared.transport.Transport.TheVariants.{Fragment, Tcp, Udp, Icmp, Other}
use Rattle.pfr_headers.specs.Checksum.{Word, with_word, with_words, word}
use Rattle.pfr_headers.specs.Laws.{IsIn, IsOfEcho, IsOfEnd, IsOfHeader, IsOfMessage, IsOfTcp, IsOfEmbedded, IsOfTransport, IsOfUdp, of_end, of_other}
use Rattle.pfr_headers.specs.Rewriting.{behind_words, echo_or_none, echo_words, end_address, error_words, header_words, inner_words, other_end, outer_words, packet_words, port_place, rewritten, tcp_words, embedded_by, embedded_in, embedded_words, udp_words, words_for, words_of}
use Rattle.pfr_headers.specs.Room.{BehindFits}
use Rattle.pfr_headers.specs.Transport.{InnerPorts, IsInner}
use Rattle.pfr_headers.specs.View.{header_length_of, packet_of, place_of, view_of}
use Rattle.pfr_headers.proofs.RewritingLemmas.{echo_span, header_room, header_span, inner_room, inner_span, inner_there, packet_there, transport_room, udp_span}
use Rattle.pfr_headers.proofs.ViewLemmas.{place_by}
use Rattle.pfr_headers.proofs.VerifyingLemmas.{all_within, place_within, tcp_span}
use Rattle.pfr_headers.proofs.WordLemmas.{AllWithin, behind, length_with, length_with_all}

-- ---- bytes beside words

ahead : (w : Word) (bytes : List ℕ) (byte : ℕ) → w.place + 2 ≤ length bytes → byte < w.place → slice_index (with_word w bytes) byte ≡ slice_index bytes byte
unfolding with_word
ahead w bytes byte within before =
    get_or_append_left (take w.place bytes) (big_bytes 2 w.value ++ drop (w.place + 2) bytes) 0 byte (omega (arith, length-take-le w.place bytes (omega arith)))
    ∙ get_or-take w.place bytes byte 0 before

past : (w : Word) (bytes : List ℕ) (byte : ℕ) → w.place + 2 ≤ length bytes → w.place + 2 ≤ byte → slice_index (with_word w bytes) byte ≡ slice_index bytes byte
past w bytes byte within after =
    let at : w.place + 2 + (byte - (w.place + 2)) ≡ byte = omega arith in
    let same = behind w bytes (w.place + 2) within (omega arith) in
    subst (λ (n : ℕ). slice_index (with_word w bytes) n ≡ slice_index bytes n) at (
    sym (get_or-drop (w.place + 2) (with_word w bytes) (byte - (w.place + 2)) 0)
    ∙ ap (λ (t : List ℕ). slice_index t (byte - (w.place + 2))) same
    ∙ get_or-drop (w.place + 2) bytes (byte - (w.place + 2)) 0)

-- a word whose two bytes are of those that may be written
abbrev AreOf : (ℕ → Type 0) → Word → Type 0
AreOf P w = P w.place × P (w.place + 1)

by_side : (P : ℕ → Type 0) (w : Word) (bytes : List ℕ) (byte : ℕ) → w.place + 2 ≤ length bytes → AreOf P w → (P byte → ⊥) → (byte ≡ w.place) ⊎ ((byte < w.place) ⊎ (w.place < byte)) → (byte < w.place + 2) ⊎ (w.place + 2 ≤ byte) → slice_index (with_word w bytes) byte ≡ slice_index bytes byte
by_side P w bytes byte within are none (inl e) side = absurd (none (subst P (sym e) are.0))
by_side P w bytes byte within are none (inr (inl before)) side = ahead w bytes byte within before
by_side P w bytes byte within are none (inr (inr after)) (inl near) = absurd (none (subst P (let e : w.place + 1 ≡ byte = omega arith in e) are.1))
by_side P w bytes byte within are none (inr (inr after)) (inr far) = past w bytes byte within far

abbrev AllOf : (ℕ → Type 0) → List Word → Type 0
AllOf P [] = ⊤
AllOf P (w ∷ ws) = AreOf P w × AllOf P ws

all_aside : (P : ℕ → Type 0) (ws : List Word) (bytes : List ℕ) (byte : ℕ) → AllWithin (length bytes) ws → AllOf P ws → (P byte → ⊥) → slice_index (with_words ws bytes) byte ≡ slice_index bytes byte
all_aside P [] bytes byte within are none = refl
all_aside P (w ∷ ws) bytes byte within are none =
    let size = length_with w bytes within.0 in
    all_aside P ws (with_word w bytes) byte (rw size within.1) are.1 none
    ∙ by_side P w bytes byte within.0 are.0 none (cases_order byte w.place) (cases_lt byte (w.place + 2))

all_append : (P : ℕ → Type 0) (xs ys : List Word) → AllOf P xs → AllOf P ys → AllOf P (xs ++ ys)
all_append P [] ys a b = b
all_append P (x ∷ xs) ys a b = (a.0, all_append P xs ys a.1 b)

all_wider : (P Q : ℕ → Type 0) (ws : List Word) → ((byte : ℕ) → P byte → Q byte) → AllOf P ws → AllOf Q ws
all_wider P Q [] more are = record {}
all_wider P Q (w ∷ ws) more are = ((more w.place are.0.0, more (w.place + 1) are.0.1), all_wider P Q ws more are.1)

-- ---- the words of each header

header_of : (d : List ℕ) (at : ℕ) (end : End) (address : Ipv4Address) → AllOf (IsOfHeader at (of_end end 12 16)) (header_words d at end address)
unfolding header_words
header_of d at Source address = ((inl (omega arith, omega arith), inl (omega arith, omega arith)), ((inl (omega arith, omega arith), inl (omega arith, omega arith)), ((inr (omega arith, omega arith), inr (omega arith, omega arith)), record {})))
header_of d at Destination address = ((inl (omega arith, omega arith), inl (omega arith, omega arith)), ((inl (omega arith, omega arith), inl (omega arith, omega arith)), ((inr (omega arith, omega arith), inr (omega arith, omega arith)), record {})))

tcp_of : (d : List ℕ) (at : ℕ) (end : End) (s : ℕ) (port : Port) → AllOf (IsOfTcp at (of_end end 0 2)) (tcp_words d at end s port)
unfolding tcp_words
tcp_of d at Source s port = ((inl (omega arith, omega arith), inl (omega arith, omega arith)), ((inr (omega arith, omega arith), inr (omega arith, omega arith)), record {}))
tcp_of d at Destination s port = ((inl (omega arith, omega arith), inl (omega arith, omega arith)), ((inr (omega arith, omega arith), inr (omega arith, omega arith)), record {}))

udp_of : (d : List ℕ) (at : ℕ) (end : End) (s : ℕ) (port : Port) → AllOf (IsOfUdp at (of_end end 0 2)) (udp_words d at end s port)
unfolding udp_words
udp_of d at Source s port = ((inl (omega arith, omega arith), inl (omega arith, omega arith)), ((inr (omega arith, omega arith), inr (omega arith, omega arith)), record {}))
udp_of d at Destination s port = ((inl (omega arith, omega arith), inl (omega arith, omega arith)), ((inr (omega arith, omega arith), inr (omega arith, omega arith)), record {}))

echo_of : (d : List ℕ) (at : ℕ) (port : Port) → AllOf (IsOfEcho at) (echo_words d at port)
unfolding echo_words
echo_of d at port = (((omega arith, omega arith), (omega arith, omega arith)), (((omega arith, omega arith), (omega arith, omega arith)), record {}))

port_of : (at : ℕ) (end : End) (port : Port) → AllOf (λ byte. IsIn (at + of_end end 0 2) 2 byte) (word (at + port_place end) port.0 ∷ [])
port_of at Source port = (((omega arith, omega arith), (omega arith, omega arith)), record {})
port_of at Destination port = (((omega arith, omega arith), (omega arith, omega arith)), record {})

-- behind the header of a packet that an error embeds, which is of TCP, UDP or ICMP
abbrev pub Known : ℕ → Type 0
Known protocol = (protocol ≡ 6) ⊎ ((protocol ≡ 17) ⊎ (protocol ≡ 1))

embedded_of : (d : List ℕ) (protocol at : ℕ) (end : End) (s : ℕ) (port : Port) → Known protocol → AllOf (IsOfEmbedded protocol at (of_end end 0 2)) (embedded_words d protocol at end s port)
unfolding embedded_words
embedded_of d protocol at end s port (inl is) =
    subst (λ (n : ℕ). AllOf (IsOfEmbedded n at (of_end end 0 2)) (embedded_words d n at end s port)) (sym is)
    (all_wider (λ byte. IsIn (at + of_end end 0 2) 2 byte) (IsOfEmbedded 6 at (of_end end 0 2)) (word (at + port_place end) port.0 ∷ []) (λ byte of. inl (refl, of)) (port_of at end port))
embedded_of d protocol at end s port (inr (inl is)) =
    subst (λ (n : ℕ). AllOf (IsOfEmbedded n at (of_end end 0 2)) (embedded_words d n at end s port)) (sym is)
    (all_wider (IsOfUdp at (of_end end 0 2)) (IsOfEmbedded 17 at (of_end end 0 2)) (udp_words d at end s port) (λ byte of. inr (inl (refl, of))) (udp_of d at end s port))
embedded_of d protocol at end s port (inr (inr is)) =
    subst (λ (n : ℕ). AllOf (IsOfEmbedded n at (of_end end 0 2)) (embedded_words d n at end s port)) (sym is)
    (all_wider (IsOfEcho at) (IsOfEmbedded 1 at (of_end end 0 2)) (echo_words d at port) (λ byte of. inr (inr (refl, of))) (echo_of d at port))

abbrev IsOfInner : ℕ → Inner → ℕ → ℕ → ℕ → Type 0
IsOfInner at inner address port byte = IsOfHeader at address byte ⊎ IsOfEmbedded inner.protocol.0 (at + inner.header_length) port byte

inner_of : (d : List ℕ) (at : ℕ) (inner : Inner) (end : End) (to : Endpoint) → Known inner.protocol.0 → AllOf (IsOfInner at inner (of_end end 12 16) (of_end end 0 2)) (inner_words d at inner end to)
unfolding inner_words
inner_of d at inner end to known =
    all_append (IsOfInner at inner (of_end end 12 16) (of_end end 0 2)) (header_words d at end to.address) _
    (all_wider (IsOfHeader at (of_end end 12 16)) _ (header_words d at end to.address) (λ byte of. inl of) (header_of d at end to.address))
    (all_wider (IsOfEmbedded inner.protocol.0 (at + inner.header_length) (of_end end 0 2)) _ _ (λ byte of. inr of) (embedded_of d inner.protocol.0 (at + inner.header_length) end _ to.port known))

other_is : (end : End) (a b : ℕ) → of_end (other_end end) a b ≡ of_other end a b
other_is Source a b = refl
other_is Destination a b = refl

outer_of : (d : List ℕ) (p : Packet) (inner : Inner) (end : End) (to : Endpoint) (same : Bool) → eqb (end_address end p.source p.destination).0 (end_address (other_end end) inner.source inner.destination).0 ≡ same → AllOf (IsOfHeader 0 (of_end end 12 16)) (outer_words d p inner end to)
unfolding outer_words
outer_of d p inner end to true e = rw e (header_of d 0 end to.address)
outer_of d p inner end to false e = rw e (record {})

-- what an error writes behind its own header
abbrev IsOfError : ℕ → Inner → End → ℕ → Type 0
IsOfError at inner end byte = IsIn (at + 2) 2 byte ⊎ IsOfHeader (at + 8) (of_other end 12 16) byte ⊎ IsOfEmbedded inner.protocol.0 (at + 8 + inner.header_length) (of_other end 0 2) byte

message_of : (at : ℕ) (end : End) (m : IcmpMessage) (inner : Inner) → embedded_by m ≡ Some inner → (byte : ℕ) → IsOfError at inner end byte → IsOfMessage at end m byte
message_of at end (message.Echo identifier) inner embedded byte of = absurd (cc)
message_of at end (message.Error carried) inner embedded byte of = subst (λ (i : Inner). IsOfError at i end byte) (let e : inner ≡ carried = cc in e) of
message_of at end message.Other inner embedded byte of = absurd (cc)

transport_of : (at : ℕ) (end : End) (t : Transport) (inner : Inner) → embedded_in t ≡ Some inner → (byte : ℕ) → IsOfError at inner end byte → IsOfTransport at end t byte
transport_of at end Fragment inner embedded byte of = absurd (cc)
transport_of at end (Tcp t) inner embedded byte of = absurd (cc)
transport_of at end (Udp u) inner embedded byte of = absurd (cc)
transport_of at end (Icmp i) inner embedded byte of = message_of at end i.message inner embedded byte of
transport_of at end Other inner embedded byte of = absurd (cc)

error_of : (d : List ℕ) (p : Packet) (inner : Inner) (end : End) (to : Endpoint) → embedded_in p.transport ≡ Some inner → Known inner.protocol.0 → AllOf (IsOfEnd p end) (error_words d p inner end to)
unfolding error_words
error_of d p inner end to embedded known =
    let carried = inner_words d (p.header_length + 8) inner (other_end end) to in
    let of_error = λ (byte : ℕ) (of : IsOfError p.header_length inner end byte). transport_of p.header_length end p.transport inner embedded byte of in
    all_append (IsOfEnd p end) carried _
    (all_wider (IsOfInner (p.header_length + 8) inner (of_end (other_end end) 12 16) (of_end (other_end end) 0 2)) (IsOfEnd p end) carried
    (λ byte of. inr (of_error byte (inr (subst (λ (n : ℕ). IsOfInner (p.header_length + 8) inner n (of_other end 0 2) byte) (other_is end 12 16) (subst (λ (n : ℕ). IsOfInner (p.header_length + 8) inner (of_end (other_end end) 12 16) n byte) (other_is end 0 2) of)))))
    (inner_of d (p.header_length + 8) inner (other_end end) to known)) (
      (inr (of_error (p.header_length + 2) (inl (omega arith, omega arith))), inr (of_error (p.header_length + 2 + 1) (inl (omega arith, omega arith)))),
      all_wider (IsOfHeader 0 (of_end end 12 16)) (IsOfEnd p end) _ (λ byte of. inl of) (outer_of d p inner end to _ refl),
    )

-- ---- any other packet

echo_or_none_of : (d : List ℕ) (at : ℕ) (end : End) (port : Port) (m : IcmpMessage) → embedded_by m ≡ None → AllOf (IsOfMessage at end m) (echo_or_none d at port m)
echo_or_none_of d at end port (message.Echo identifier) embedded = echo_of d at port
echo_or_none_of d at end port (message.Error inner) embedded = record {}
echo_or_none_of d at end port message.Other embedded = record {}

behind_of : (d : List ℕ) (at : ℕ) (end : End) (s : ℕ) (port : Port) (t : Transport) → embedded_in t ≡ None → AllOf (IsOfTransport at end t) (behind_words d at end s port t)
behind_of d at end s port Fragment embedded = record {}
behind_of d at end s port (Tcp t) embedded = tcp_of d at end s port
behind_of d at end s port (Udp u) embedded = udp_of d at end s port
behind_of d at end s port (Icmp i) embedded = echo_or_none_of d at end port i.message embedded
behind_of d at end s port Other embedded = record {}

packet_of_end : (d : List ℕ) (p : Packet) (end : End) (to : Endpoint) → embedded_in p.transport ≡ None → AllOf (IsOfEnd p end) (packet_words d p end to)
unfolding packet_words
packet_of_end d p end to embedded =
    all_append (IsOfEnd p end) (header_words d 0 end to.address) _
    (all_wider (IsOfHeader 0 (of_end end 12 16)) (IsOfEnd p end) _ (λ byte of. inl of) (header_of d 0 end to.address))
    (all_wider (IsOfTransport p.header_length end p.transport) (IsOfEnd p end) _ (λ byte of. inr of) (behind_of d p.header_length end _ to.port p.transport embedded))

-- ---- all words lie within the datagram

within_append : (size : ℕ) (xs ys : List Word) → AllWithin size xs → AllWithin size ys → AllWithin size (xs ++ ys)
within_append size [] ys a b = b
within_append size (x ∷ xs) ys a b = (a.0, within_append size xs ys a.1 b)

header_lies : (size : ℕ) (d : List ℕ) (at : ℕ) (end : End) (address : Ipv4Address) → at + 20 ≤ size → AllWithin size (header_words d at end address)
header_lies size d at end address room = all_within _ (at + 10) (at + 20) size (header_span d at end address) room

echo_lies : (size : ℕ) (d : List ℕ) (at : ℕ) (port : Port) (m : IcmpMessage) → at + 8 ≤ size → AllWithin size (echo_or_none d at port m)
echo_lies size d at port (message.Echo identifier) room = all_within _ at (at + 8) size (echo_span d at port) room
echo_lies size d at port (message.Error inner) room = record {}
echo_lies size d at port message.Other room = record {}

behind_lies : (size : ℕ) (d : List ℕ) (at : ℕ) (end : End) (s : ℕ) (port : Port) (t : Transport) → BehindFits size at t → AllWithin size (behind_words d at end s port t)
behind_lies size d at end s port Fragment fits = record {}
behind_lies size d at end s port (Tcp t) fits = all_within _ at (at + 20) size (tcp_span d at end s port) fits
behind_lies size d at end s port (Udp u) fits = all_within _ at (at + 8) size (udp_span d at end s port) fits
behind_lies size d at end s port (Icmp i) fits = echo_lies size d at port i.message fits
behind_lies size d at end s port Other fits = record {}

outer_lies : (size : ℕ) (d : List ℕ) (p : Packet) (inner : Inner) (end : End) (to : Endpoint) (same : Bool) → eqb (end_address end p.source p.destination).0 (end_address (other_end end) inner.source inner.destination).0 ≡ same → 20 ≤ size → AllWithin size (outer_words d p inner end to)
unfolding outer_words
outer_lies size d p inner end to true e room = rw e (header_lies size d 0 end to.address room)
outer_lies size d p inner end to false e room = rw e (record {})

pub words_lie : (d : List ℕ) (change : Change) (embedded : Option Inner) → embedded_in change.packet.transport ≡ embedded → packet_of change.packet.sender d ≡ Some change.packet → AllWithin (length d) (words_for d change embedded)
unfolding error_words packet_words
words_lie d change None is there =
    let room = header_room d change.packet there in
    let least = room.0 in
    let most = room.1 in
    within_append (length d) (header_words d 0 change.end change.to.address) _ (header_lies (length d) d 0 change.end change.to.address (omega arith))
    (behind_lies (length d) d change.packet.header_length change.end _ change.to.port change.packet.transport (transport_room d change.packet there))
words_lie d change (Some inner) is there =
    let least = (header_room d change.packet there).0 in
    let room = inner_room d change.packet inner there is in
    let header = room.header in
    let behind = room.behind in
    within_append (length d) (inner_words d (change.packet.header_length + 8) inner (other_end change.end) change.to) _
    (all_within _ (change.packet.header_length + 8 + 10) (change.packet.header_length + 8 + inner.header_length + 8) (length d) (inner_span d (change.packet.header_length + 8) inner (other_end change.end) change.to header) behind)
    (omega arith, outer_lies (length d) d change.packet inner change.end change.to _ refl (omega arith))

-- ---- a datagram, and its frame

known_by : (protocol : ℕ) (s : List ℕ) (source destination : ℕ) → InnerPorts protocol s source destination → Known protocol
known_by protocol s source destination (inl (inl is, a, b)) = inl is
known_by protocol s source destination (inl (inr is, a, b)) = inr (inl is)
known_by protocol s source destination (inr r) = inr (inr r.0)

known_inner : (e : List ℕ) (inner : Inner) → IsInner e inner → Known inner.protocol.0
known_inner e inner i = subst Known (sym i.protocol) (known_by (slice_index e 9) (drop (4 * (slice_index e 0 % 16)) e) inner.source_port.0 inner.destination_port.0 i.ports)

pub inner_known : (d : List ℕ) (p : Packet) (inner : Inner) → packet_of p.sender d ≡ Some p → embedded_in p.transport ≡ Some inner → Known inner.protocol.0
inner_known d p inner there embedded = known_inner (drop 8 (drop (header_length_of d) d)) inner (inner_there d p inner there embedded)

words_of_end : (d : List ℕ) (change : Change) (embedded : Option Inner) → embedded_in change.packet.transport ≡ embedded → packet_of change.packet.sender d ≡ Some change.packet → AllOf (IsOfEnd change.packet change.end) (words_for d change embedded)
words_of_end d change None is there = packet_of_end d change.packet change.end change.to is
words_of_end d change (Some inner) is there = error_of d change.packet inner change.end change.to is (inner_known d change.packet inner there is)

pub datagram_length : (d : List ℕ) (change : Change) → packet_of change.packet.sender d ≡ Some change.packet → length (with_words (words_of d change) d) ≡ length d
unfolding words_of
datagram_length d change there = length_with_all _ d (words_lie d change _ refl there)

pub datagram_byte : (d : List ℕ) (change : Change) (byte : ℕ) → packet_of change.packet.sender d ≡ Some change.packet → (IsOfEnd change.packet change.end byte → ⊥) → slice_index (with_words (words_of d change) d) byte ≡ slice_index d byte
unfolding words_of
datagram_byte d change byte there none = all_aside (IsOfEnd change.packet change.end) _ d byte (words_lie d change _ refl there) (words_of_end d change _ refl there) none

frame_length_at : (link : ℕ) (bytes : List ℕ) (change : Change) (found : Option ℕ) → place_of link bytes ≡ found → view_of link bytes ≡ Ipv4 change.packet → length (rewritten link change bytes) ≡ length bytes
unfolding rewritten
frame_length_at link bytes change None at is = rw at refl
frame_length_at link bytes change (Some place) at is =
    let there = packet_there link place bytes change.packet at is in
    let within = place_within link bytes place (place_by link bytes place at) in
    let d = drop place bytes in
    rw at (omega (arith, length-append (take place bytes) (with_words (words_of d change) d), length-take-le place bytes within, datagram_length d change there, length-drop place bytes))

pub frame_length : (link : ℕ) (bytes : List ℕ) (change : Change) → view_of link bytes ≡ Ipv4 change.packet → length (rewritten link change bytes) ≡ length bytes
frame_length link bytes change is = frame_length_at link bytes change _ refl is

frame_byte_at : (bytes new : List ℕ) (place byte : ℕ) → place ≤ length bytes → (place ≤ byte → slice_index new (byte - place) ≡ slice_index (drop place bytes) (byte - place)) → (byte < place) ⊎ (place ≤ byte) → slice_index (take place bytes ++ new) byte ≡ slice_index bytes byte
frame_byte_at bytes new place byte within same (inl before) =
    get_or_append_left (take place bytes) new 0 byte (omega (arith, length-take-le place bytes within)) ∙ get_or-take place bytes byte 0 before
frame_byte_at bytes new place byte within same (inr behind) =
    let size = length-take-le place bytes within in
    let at : length (take place bytes) + (byte - place) ≡ byte = omega (arith, size) in
    let back : place + (byte - place) ≡ byte = omega arith in
    subst (λ (n : ℕ). slice_index (take place bytes ++ new) n ≡ slice_index new (byte - place)) at (get_or-append-add (take place bytes) new (byte - place) 0)
    ∙ same behind
    ∙ get_or-drop place bytes (byte - place) 0
    ∙ ap (λ (n : ℕ). slice_index bytes n) back

pub frame_byte : (link : ℕ) (bytes : List ℕ) (change : Change) (place byte : ℕ) → view_of link bytes ≡ Ipv4 change.packet → place_of link bytes ≡ Some place → (place ≤ byte → IsOfEnd change.packet change.end (byte - place) → ⊥) → slice_index (rewritten link change bytes) byte ≡ slice_index bytes byte
unfolding rewritten
frame_byte link bytes change place byte is at none =
    let there = packet_there link place bytes change.packet at is in
    let within = place_within link bytes place (place_by link bytes place at) in
    let d = drop place bytes in
    rw at (frame_byte_at bytes (with_words (words_of d change) d) place byte within (λ behind. datagram_byte d change (byte - place) there (none behind)) (cases_lt byte place))
