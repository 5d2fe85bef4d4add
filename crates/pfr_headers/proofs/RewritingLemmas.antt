-- Words that are written one after the other are those of the whole change, each by what stood there before.
use Rattle.std.proofs.Common.{◌≡◌, inl, inr, ◌≤◌, ◌-◌, ◌+◌, ◌++◌, ℕ, Bool, true, false, eqb, List, [], ◌∷◌, length, take, drop, slice_index, Option, Some, None, refl, sym, ◌∙◌, ap, subst, arith}
use Rattle.std.proofs.lemmas.List.{append_assoc, length-drop}
use Rattle.std.proofs.Math.ListN.{drop_of_length-le}
use Rattle.pfr_net.specs.declared.address.Ipv4Address.{Ipv4Address}
use Rattle.pfr_net.specs.declared.endpoint.Endpoint.{Endpoint}
use Rattle.pfr_net.specs.declared.port.Port.{Port}
use Rattle.pfr_headers.specs.declared.change.End.{End}
use Rattle.pfr_headers.specs.declared.change.End.TheVariants.{Source, Destination}
use Rattle.pfr_headers.specs.declared.ethernet.EthernetAddress.{EthernetAddress}
use Rattle.pfr_headers.specs.declared.icmp.Inner.{Inner}
use Rattle.pfr_headers.specs.declared.icmp.IcmpMessage.{IcmpMessage}
use Rattle.pfr_headers.specs.declared.icmp.IcmpMessage.TheVariants as message
use Rattle.pfr_headers.specs.declared.packet.Packet.{Packet}
use Rattle.pfr_headers.specs.declared.transport.Transport.{Transport}
use Rattle.pfr_headers.specs.declared.transport.Transport.TheVariants.{Fragment, Tcp, Udp, Icmp, Other}
use Rattle.pfr_headers.specs.Checksum.{Word, difference_of, mended, with_word, with_words, word, word_at}
use Rattle.pfr_headers.specs.Rewriting.{address_place, address_words, behind_words, echo_or_none, echo_words, end_address, error_words, header_words, inner_words, other_end, outer_words, packet_words, port_place, rewritten, tcp_words, embedded_by, embedded_in, embedded_words, udp_words, words_of}
use Rattle.pfr_headers.specs.declared.change.Change.{Change}
use Rattle.pfr_headers.specs.declared.packet.View.TheVariants.{Ipv4}
use Rattle.pfr_headers.specs.Transport.{IsInner, IsMessage, IsTransport}
use Rattle.pfr_headers.specs.View.{IsHeader, header_length_of, is_fragment, packet_of, place_of, seen, sender_of, total_length_of, view_of}
use Rattle.pfr_headers.proofs.TransportLemmas.{none_some, same_some}
use Rattle.pfr_headers.proofs.ViewLemmas.{packet_by, sent_by}
use Rattle.pfr_headers.specs.Room.{BehindFits, InnerFits}
use Rattle.pfr_headers.proofs.WordLemmas.{Spans, difference_append, difference_same, outside, spans_append, spans_wider, with_append}

pub address_least : (end : End) → 12 ≤ address_place end
address_least Source = omega arith
address_least Destination = omega arith

pub address_most : (end : End) → address_place end ≤ 16
address_most Source = omega arith
address_most Destination = omega arith

pub port_most : (end : End) → port_place end ≤ 2
port_most Source = omega arith
port_most Destination = omega arith

-- where the words of each header lie

pub header_span : (d : List ℕ) (header : ℕ) (end : End) (address : Ipv4Address) → Spans (header + 10) (header + 20) (header_words d header end address)
unfolding header_words
header_span d header end address =
    let least = address_least end in
    let most = address_most end in
    (omega arith, omega arith, (omega arith, omega arith, (omega arith, omega arith, record {})))

pub udp_span : (d : List ℕ) (at : ℕ) (end : End) (addresses : ℕ) (port : Port) → Spans at (at + 8) (udp_words d at end addresses port)
unfolding udp_words
udp_span d at end addresses port =
    let most = port_most end in
    (omega arith, omega arith, (omega arith, omega arith, record {}))

pub echo_span : (d : List ℕ) (at : ℕ) (port : Port) → Spans at (at + 8) (echo_words d at port)
unfolding echo_words
echo_span d at port = (omega arith, omega arith, (omega arith, omega arith, record {}))

embedded_by_tests : (d : List ℕ) (protocol at : ℕ) (end : End) (addresses : ℕ) (port : Port) (tcp udp : Bool) → eqb protocol 6 ≡ tcp → eqb protocol 17 ≡ udp → Spans at (at + 8) (embedded_words d protocol at end addresses port)
unfolding embedded_words
embedded_by_tests d protocol at end addresses port true udp a b = rw a (let most = port_most end in (omega arith, omega arith, record {}))
embedded_by_tests d protocol at end addresses port false true a b = rw (a, b) (udp_span d at end addresses port)
embedded_by_tests d protocol at end addresses port false false a b = rw (a, b) (echo_span d at port)

pub embedded_span : (d : List ℕ) (protocol at : ℕ) (end : End) (addresses : ℕ) (port : Port) → Spans at (at + 8) (embedded_words d protocol at end addresses port)
embedded_span d protocol at end addresses port = embedded_by_tests d protocol at end addresses port _ _ refl refl

pub inner_span : (d : List ℕ) (at : ℕ) (inner : Inner) (end : End) (to : Endpoint) → 20 ≤ inner.header_length → Spans (at + 10) (at + inner.header_length + 8) (inner_words d at inner end to)
unfolding inner_words
inner_span d at inner end to long =
    spans_append (header_words d at end to.address) _ _ _
    (spans_wider (header_words d at end to.address) (at + 10) (at + 20) (at + 10) (at + inner.header_length + 8) (header_span d at end to.address) (omega arith) (omega arith))
    (spans_wider _ (at + inner.header_length) (at + inner.header_length + 8) (at + 10) (at + inner.header_length + 8)
    (embedded_span d inner.protocol.0 (at + inner.header_length) end (difference_of d (address_words (at + address_place end) to.address)) to.port) (omega arith) (omega arith))

-- the words of a header are the same after words before it were written

tcp_same : (before : List Word) (d : List ℕ) (low high at : ℕ) (end : End) (s : ℕ) (port : Port) → Spans low high before → high ≤ length d → high ≤ at → tcp_words (with_words before d) at end s port ≡ tcp_words d at end s port
unfolding tcp_words
tcp_same before d low high at end s port spans within over =
    rw (outside before d low high (at + port_place end) spans within (inl (omega arith)), outside before d low high (at + 16) spans within (inl (omega arith))) refl

udp_same : (before : List Word) (d : List ℕ) (low high at : ℕ) (end : End) (s : ℕ) (port : Port) → Spans low high before → high ≤ length d → high ≤ at → udp_words (with_words before d) at end s port ≡ udp_words d at end s port
unfolding udp_words
udp_same before d low high at end s port spans within over =
    rw (outside before d low high (at + port_place end) spans within (inl (omega arith)), outside before d low high (at + 6) spans within (inl (omega arith))) refl

echo_same : (before : List Word) (d : List ℕ) (low high at : ℕ) (port : Port) → Spans low high before → high ≤ length d → high ≤ at → echo_words (with_words before d) at port ≡ echo_words d at port
unfolding echo_words
echo_same before d low high at port spans within over =
    rw (outside before d low high (at + 4) spans within (inl (omega arith)), outside before d low high (at + 2) spans within (inl (omega arith))) refl

embedded_same_by : (before : List Word) (d : List ℕ) (low high protocol at : ℕ) (end : End) (s : ℕ) (port : Port) (tcp udp : Bool) → eqb protocol 6 ≡ tcp → eqb protocol 17 ≡ udp → Spans low high before → high ≤ length d → high ≤ at → embedded_words (with_words before d) protocol at end s port ≡ embedded_words d protocol at end s port
unfolding embedded_words
embedded_same_by before d low high protocol at end s port true udp a b spans within over = rw a refl
embedded_same_by before d low high protocol at end s port false true a b spans within over = rw (a, b) (udp_same before d low high at end s port spans within over)
embedded_same_by before d low high protocol at end s port false false a b spans within over = rw (a, b) (echo_same before d low high at port spans within over)

embedded_same : (before : List Word) (d : List ℕ) (low high protocol at : ℕ) (end : End) (s : ℕ) (port : Port) → Spans low high before → high ≤ length d → high ≤ at → embedded_words (with_words before d) protocol at end s port ≡ embedded_words d protocol at end s port
embedded_same before d low high protocol at end s port spans within over = embedded_same_by before d low high protocol at end s port _ _ refl refl spans within over

-- and after words behind it were
header_same : (before : List Word) (d : List ℕ) (low high header : ℕ) (end : End) (address : Ipv4Address) → Spans low high before → high ≤ length d → header + 20 ≤ low → header_words (with_words before d) header end address ≡ header_words d header end address
unfolding header_words
header_same before d low high header end address spans within under =
    let most = address_most end in
    rw (
      outside before d low high (header + 10) spans within (inr (omega arith)),
      outside before d low high (header + address_place end) spans within (inr (omega arith)),
      outside before d low high (header + address_place end + 2) spans within (inr (omega arith)),
    ) refl

-- the packet that an error embeds

pub inner_written : (d b c : List ℕ) (at : ℕ) (inner : Inner) (end : End) (to : Endpoint) (s : ℕ) → InnerFits (length d) at inner → b ≡ with_words (header_words d at end to.address) d → s ≡ difference_of d (address_words (at + address_place end) to.address) → c ≡ with_words (embedded_words b inner.protocol.0 (at + inner.header_length) end s to.port) b → c ≡ with_words (inner_words d at inner end to) d
unfolding inner_words
inner_written d b c at inner end to s fits first sum then =
    let long = fits.header in
    let room = fits.behind in
    let same = embedded_same (header_words d at end to.address) d (at + 10) (at + 20) inner.protocol.0 (at + inner.header_length) end s to.port (header_span d at end to.address) (omega arith) (omega arith) in
    then ∙ (rw (first, same, sum) (sym (with_append (header_words d at end to.address) _ d)))

pub inner_brings : (d b : List ℕ) (at : ℕ) (inner : Inner) (end : End) (to : Endpoint) (s r t : ℕ) → InnerFits (length d) at inner → b ≡ with_words (header_words d at end to.address) d → s ≡ difference_of d (address_words (at + address_place end) to.address) → r ≡ difference_of d (header_words d at end to.address) → t ≡ difference_of b (embedded_words b inner.protocol.0 (at + inner.header_length) end s to.port) → r + t ≡ difference_of d (inner_words d at inner end to)
unfolding inner_words
inner_brings d b at inner end to s r t fits first sum brings then =
    let long = fits.header in
    let room = fits.behind in
    let same = embedded_same (header_words d at end to.address) d (at + 10) (at + 20) inner.protocol.0 (at + inner.header_length) end s to.port (header_span d at end to.address) (omega arith) (omega arith) in
    let embedded = embedded_words d inner.protocol.0 (at + inner.header_length) end s to.port in
    let still = difference_same (header_words d at end to.address) embedded d (at + 10) (at + 20) (at + inner.header_length) (at + inner.header_length + 8) (header_span d at end to.address) (embedded_span d inner.protocol.0 (at + inner.header_length) end s to.port) (omega arith) (omega arith) in
    let second : t ≡ difference_of d embedded = then ∙ (rw (first, same) still) in
    rw (brings, second, ← sum) (sym (difference_append (header_words d at end to.address) embedded d))

-- an error

outer_same_by : (before : List Word) (d : List ℕ) (low high : ℕ) (p : Packet) (inner : Inner) (end : End) (to : Endpoint) (same : Bool) → eqb (end_address end p.source p.destination).0 (end_address (other_end end) inner.source inner.destination).0 ≡ same → Spans low high before → high ≤ length d → 20 ≤ low → outer_words (with_words before d) p inner end to ≡ outer_words d p inner end to
unfolding outer_words
outer_same_by before d low high p inner end to true e spans within under = rw e (header_same before d low high 0 end to.address spans within under)
outer_same_by before d low high p inner end to false e spans within under = rw e refl

pub outer_same : (before : List Word) (d : List ℕ) (low high : ℕ) (p : Packet) (inner : Inner) (end : End) (to : Endpoint) → Spans low high before → high ≤ length d → 20 ≤ low → outer_words (with_words before d) p inner end to ≡ outer_words d p inner end to
outer_same before d low high p inner end to spans within under = outer_same_by before d low high p inner end to _ refl spans within under

pub error_written : (d b c e : List ℕ) (p : Packet) (inner : Inner) (end : End) (to : Endpoint) (s : ℕ) → 20 ≤ p.header_length → InnerFits (length d) (p.header_length + 8) inner
    → b ≡ with_words (inner_words d (p.header_length + 8) inner (other_end end) to) d
    → s ≡ difference_of d (inner_words d (p.header_length + 8) inner (other_end end) to)
    → c ≡ with_word (word (p.header_length + 2) (mended (word_at b (p.header_length + 2)) s)) b
    → e ≡ with_words (outer_words c p inner end to) c
    → e ≡ with_words (error_words d p inner end to) d
unfolding error_words
error_written d b c e p inner end to s header fits first sum second third =
    let long = fits.header in
    let room = fits.behind in
    let carried = inner_words d (p.header_length + 8) inner (other_end end) to in
    let span = inner_span d (p.header_length + 8) inner (other_end end) to long in
    let checksum = outside carried d (p.header_length + 8 + 10) (p.header_length + 8 + inner.header_length + 8) (p.header_length + 2) span (omega arith) (inr (omega arith)) in
    let mended_here = word (p.header_length + 2) (mended (word_at d (p.header_length + 2)) (difference_of d carried)) in
    let all : c ≡ with_words (carried ++ mended_here ∷ []) d = second ∙ (rw (first, checksum, sum) (sym (with_append carried (mended_here ∷ []) d))) in
    let wide = spans_append carried (mended_here ∷ []) (p.header_length + 2) (p.header_length + 8 + inner.header_length + 8)
    (spans_wider carried (p.header_length + 8 + 10) (p.header_length + 8 + inner.header_length + 8) (p.header_length + 2) (p.header_length + 8 + inner.header_length + 8) span (omega arith) (omega arith))
    (omega arith, omega arith, record {}) in
    let outer = outer_same (carried ++ mended_here ∷ []) d (p.header_length + 2) (p.header_length + 8 + inner.header_length + 8) p inner end to wide (omega arith) (omega arith) in
    third ∙ (rw (all, outer) (sym (with_append (carried ++ mended_here ∷ []) (outer_words d p inner end to) d)
    ∙ ap (λ (ws : List Word). with_words ws d) (append_assoc carried (mended_here ∷ []) (outer_words d p inner end to))))

-- any other packet

echo_same_by : (before : List Word) (d : List ℕ) (low high at : ℕ) (port : Port) (m : IcmpMessage) → Spans low high before → high ≤ length d → high ≤ at → echo_or_none (with_words before d) at port m ≡ echo_or_none d at port m
echo_same_by before d low high at port (message.Echo identifier) spans within over = echo_same before d low high at port spans within over
echo_same_by before d low high at port (message.Error inner) spans within over = refl
echo_same_by before d low high at port message.Other spans within over = refl

behind_same : (before : List Word) (d : List ℕ) (low high at : ℕ) (end : End) (s : ℕ) (port : Port) (t : Transport) → Spans low high before → high ≤ length d → high ≤ at → behind_words (with_words before d) at end s port t ≡ behind_words d at end s port t
behind_same before d low high at end s port Fragment spans within over = refl
behind_same before d low high at end s port (Tcp t) spans within over = tcp_same before d low high at end s port spans within over
behind_same before d low high at end s port (Udp u) spans within over = udp_same before d low high at end s port spans within over
behind_same before d low high at end s port (Icmp i) spans within over = echo_same_by before d low high at port i.message spans within over
behind_same before d low high at end s port Other spans within over = refl

pub packet_written : (d b c : List ℕ) (p : Packet) (end : End) (to : Endpoint) (s : ℕ) → 20 ≤ p.header_length → p.header_length ≤ length d
    → b ≡ with_words (header_words d 0 end to.address) d
    → s ≡ difference_of d (address_words (0 + address_place end) to.address)
    → c ≡ with_words (behind_words b p.header_length end s to.port p.transport) b
    → c ≡ with_words (packet_words d p end to) d
unfolding packet_words
packet_written d b c p end to s long within first sum then =
    let same = behind_same (header_words d 0 end to.address) d 10 20 p.header_length end s to.port p.transport (header_span d 0 end to.address) (omega arith) (omega arith) in
    let place : 0 + address_place end ≡ address_place end = omega arith in
    let total : s ≡ difference_of d (address_words (address_place end) to.address) = sum ∙ ap (λ (n : ℕ). difference_of d (address_words n to.address)) place in
    then ∙ (rw (first, same, total) (sym (with_append (header_words d 0 end to.address) _ d)))

-- what a packet's view says of its lengths

behind_room : (d : List ℕ) (p : Packet) (t : Transport) → IsHeader d p → IsTransport (slice_index d 9) (is_fragment d) (total_length_of d - header_length_of d) (drop (header_length_of d) d) t → BehindFits (length d) p.header_length t
behind_room d p Fragment h is = record {}
behind_room d p (Tcp t) h is =
    let same = h.header_length in
    let least = is.2.at_least in
    let there = is.2.captured in
    omega (arith, length-drop (header_length_of d) d)
behind_room d p (Udp u) h is =
    let same = h.header_length in
    let there = is.2.captured in
    omega (arith, length-drop (header_length_of d) d)
behind_room d p (Icmp i) h is =
    let same = h.header_length in
    let there = is.2.captured in
    omega (arith, length-drop (header_length_of d) d)
behind_room d p Other h is = record {}

pub header_room : (d : List ℕ) (p : Packet) → packet_of p.sender d ≡ Some p → (20 ≤ p.header_length) × (p.header_length ≤ length d)
header_room d p is =
    let h = (packet_by d p is).header in
    let same = h.header_length in
    let least = h.at_least in
    let there = h.captured in
    (omega arith, omega arith)

pub transport_room : (d : List ℕ) (p : Packet) → packet_of p.sender d ≡ Some p → BehindFits (length d) p.header_length p.transport
transport_room d p is = let all = packet_by d p is in behind_room d p p.transport all.header all.transport

embedded_message : (e : List ℕ) (kind : ℕ) (s : List ℕ) (m : IcmpMessage) (inner : Inner) → IsMessage kind s m → embedded_by m ≡ Some inner → IsInner (drop 8 s) inner
embedded_message e kind s (message.Echo identifier) inner is embedded = none_some inner (embedded_by (message.Echo identifier)) embedded refl
embedded_message e kind s (message.Error carried) inner is embedded = subst (λ (i : Inner). IsInner (drop 8 s) i) (same_some carried inner embedded) is.1
embedded_message e kind s message.Other inner is embedded = none_some inner (embedded_by message.Other) embedded refl

embedded_transport : (protocol : ℕ) (fragment : Bool) (whole : ℕ) (s : List ℕ) (t : Transport) (inner : Inner) → IsTransport protocol fragment whole s t → embedded_in t ≡ Some inner → IsInner (drop 8 s) inner
embedded_transport protocol fragment whole s Fragment inner is embedded = none_some inner (embedded_in Fragment) embedded refl
embedded_transport protocol fragment whole s (Tcp t) inner is embedded = none_some inner (embedded_in (Tcp t)) embedded refl
embedded_transport protocol fragment whole s (Udp u) inner is embedded = none_some inner (embedded_in (Udp u)) embedded refl
embedded_transport protocol fragment whole s (Icmp i) inner is embedded = embedded_message s (slice_index s 0) s i.message inner is.2.message embedded
embedded_transport protocol fragment whole s Other inner is embedded = none_some inner (embedded_in Other) embedded refl

-- the packet that an error embeds is there
pub inner_there : (d : List ℕ) (p : Packet) (inner : Inner) → packet_of p.sender d ≡ Some p → embedded_in p.transport ≡ Some inner → IsInner (drop 8 (drop (header_length_of d) d)) inner
inner_there d p inner is embedded = embedded_transport (slice_index d 9) (is_fragment d) (total_length_of d - header_length_of d) (drop (header_length_of d) d) p.transport inner (packet_by d p is).transport embedded

pub inner_room : (d : List ℕ) (p : Packet) (inner : Inner) → packet_of p.sender d ≡ Some p → embedded_in p.transport ≡ Some inner → InnerFits (length d) (p.header_length + 8) inner
inner_room d p inner is embedded =
    let all = packet_by d p is in
    let i = inner_there d p inner is embedded in
    let same = all.header.header_length in
    let first = i.header_length in
    let least = i.at_least in
    let there = i.captured in
    let a = length-drop 8 (drop (header_length_of d) d) in
    let b = length-drop (header_length_of d) d in
    record { header = omega arith; behind = omega (arith, a, b) }

-- the frame

pub frame_written : (link place : ℕ) (bytes new : List ℕ) (change : Change) → place_of link bytes ≡ Some place → new ≡ with_words (words_of (drop place bytes) change) (drop place bytes) → take place bytes ++ new ≡ rewritten link change bytes
unfolding rewritten
frame_written link place bytes new change at is = rw (at, is) refl

of_seen : (found : Option Packet) (p : Packet) → seen found ≡ Ipv4 p → found ≡ Some p
of_seen None p e = absurd (cc)
of_seen (Some q) p e = cc

packet_sent : (link place : ℕ) (bytes : List ℕ) (p : Packet) → place_of link bytes ≡ Some place → view_of link bytes ≡ Ipv4 p → packet_of (sender_of link bytes) (drop place bytes) ≡ Some p
unfolding view_of
packet_sent link place bytes p at is = of_seen (packet_of (sender_of link bytes) (drop place bytes)) p (rw at at is)

pub packet_there : (link place : ℕ) (bytes : List ℕ) (p : Packet) → place_of link bytes ≡ Some place → view_of link bytes ≡ Ipv4 p → packet_of p.sender (drop place bytes) ≡ Some p
packet_there link place bytes p at is =
    let there = packet_sent link place bytes p at is in
    subst (λ (sender : Option EthernetAddress). packet_of sender (drop place bytes) ≡ Some p) (sym (sent_by (sender_of link bytes) (drop place bytes) p there)) there

-- its sender is the frame's
pub sender_there : (link place : ℕ) (bytes : List ℕ) (p : Packet) → place_of link bytes ≡ Some place → view_of link bytes ≡ Ipv4 p → p.sender ≡ sender_of link bytes
sender_there link place bytes p at is = sent_by (sender_of link bytes) (drop place bytes) p (packet_sent link place bytes p at is)

pub nowhere : (link : ℕ) (bytes : List ℕ) (change : Change) → place_of link bytes ≡ None → bytes ≡ rewritten link change bytes
unfolding rewritten
nowhere link bytes change at = rw at refl

pub nothing_behind : (place : ℕ) (bytes : List ℕ) → drop (length bytes - place) (drop place bytes) ≡ []
nothing_behind place bytes = drop_of_length-le (drop place bytes) (omega (arith, length-drop place bytes))
