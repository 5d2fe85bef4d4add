-- A packet that embeds no other is seen, once it is rewritten, as the packet behind its translation: of all that its
-- view reads only the end that is translated is written, and there stands what was written.
use Rattle.std.specs.Prelude.{⊤}
use Rattle.std.proofs.Common.{◌≡◌, ◌⊎◌, inl, inr, ◌≤◌, ◌<◌, ◌-◌, ◌+◌, ◌*◌, ◌/◌, ◌%◌, ℕ, zero, suc, Bool, List, [], ◌∷◌, length, drop, slice_index, Option, Some, None, refl, sym, ◌∙◌, ap, subst, arith}
use Rattle.std.proofs.lemmas.Grind.{same_number_lists}
use Rattle.std.proofs.lemmas.List.{get_or-drop, length-drop}
use Rattle.byteorder.specs.Endian.{big_from, big_number}
use Rattle.pfr_net.specs.declared.address.Ipv4Address.{Ipv4Address}
use Rattle.pfr_net.specs.declared.endpoint.Endpoint.{Endpoint}
use Rattle.pfr_net.specs.declared.port.Port.{Port}
use Rattle.pfr_headers.specs.declared.change.Change.{Change}
use Rattle.pfr_headers.specs.declared.change.End.{End}
use Rattle.pfr_headers.specs.declared.change.End.TheVariants.{Source, Destination}
use Rattle.pfr_headers.specs.declared.icmp.IcmpHeader.{IcmpHeader}
use Rattle.pfr_headers.specs.declared.icmp.IcmpMessage.{IcmpMessage}
use Rattle.pfr_headers.specs.declared.icmp.IcmpMessage.TheVariants as message
use Rattle.pfr_headers.specs.declared.packet.Packet.{Packet}
use Rattle.pfr_headers.specs.declared.packet.View.TheVariants.{Ipv4, Skip}
use Rattle.pfr_headers.specs.declared.tcp.TcpHeader.{TcpHeader}
use Rattle.pfr_headers.specs.declared.transport.Transport.{Transport}
use Rattle.pfr_headers.specs.declared.transport.Transport.TheVariants.{Fragment, Tcp, Udp, Icmp, Other}
use Rattle.pfr_headers.specs.declared.udp.UdpHeader.{UdpHeader}
use Rattle.pfr_headers.specs.Checksum.{Word, difference_of, with_word, with_words, word, word_at}
use Rattle.pfr_headers.specs.Laws.{IsIn, IsOfEnd, IsOfHeader, IsOfMessage, IsOfTcp, IsOfTransport, IsOfUdp, of_end, of_other}
use Rattle.pfr_headers.specs.Rewriting.{address_place, address_words, behind_words, echo_or_none, echo_words, embedded_by, embedded_in, header_words, packet_words, port_place, rewritten, tcp_words, udp_words, words_of}
use Rattle.pfr_headers.specs.Room.{BehindFits}
use Rattle.pfr_headers.specs.Translated.{message_with, tcp_with, translated, transport_with, udp_with}
use Rattle.pfr_headers.specs.Transport.{IsIcmp, IsMessage, IsTcp, IsTransport, IsUdp}
use Rattle.pfr_headers.specs.View.{HoldsIpv4, IsPacket, header_length_of, is_fragment, packet_of, place_of, sender_of, total_length_of, view_of}
use Rattle.pfr_headers.proofs.CarriedLemmas.{alone, datagram_at}
use Rattle.pfr_headers.proofs.FieldLemmas.{datagram_byte, datagram_length, frame_byte, frame_length}
use Rattle.pfr_headers.proofs.FrontLemmas.{Agree, holds_same, number_same, sender_same}
use Rattle.pfr_headers.proofs.RewritingLemmas.{address_least, address_most, echo_span, header_room, packet_there, port_most, sender_there, transport_room, udp_span}
use Rattle.pfr_headers.proofs.StandingLemmas.{word_behind}
use Rattle.pfr_headers.proofs.VerifyingLemmas.{header_within, read_at, tcp_span}
use Rattle.pfr_headers.proofs.ViewLemmas.{packet_by, place_by, view_is}
use Rattle.pfr_headers.proofs.WordLemmas.{Beside, kept, kept_before, kept_behind, length_with, outside, with_append}

-- ---- where a packet's bytes may be written

-- all other bytes are the same
abbrev Stays : (ℕ → Type 0) → List ℕ → List ℕ → Type 0
Stays P now old = (byte : ℕ) → (P byte → ⊥) → slice_index now byte ≡ slice_index old byte

-- the places of an end
end_most : (end : End) → (12 ≤ of_end end 12 16) × (of_end end 12 16 ≤ 16) × (of_end end 0 2 ≤ 2)
end_most Source = (omega arith, omega arith, omega arith)
end_most Destination = (omega arith, omega arith, omega arith)

other_most : (end : End) → of_other end 12 16 ≤ 16
other_most Source = omega arith
other_most Destination = omega arith

-- of a message none before its checksum, and of any transport none before it; the others are the same wherever it
-- begins
in_message : (at : ℕ) (end : End) (m : IcmpMessage) (byte : ℕ) → embedded_by m ≡ None → IsOfMessage at end m byte → (at + 2 ≤ byte) × IsOfMessage 0 end m (byte - at)
in_message at end (message.Echo identifier) byte none (low, high) = (omega arith, (omega arith, omega arith))
in_message at end (message.Error inner) byte none of = absurd (cc)
in_message at end message.Other byte none of = absurd of

in_transport : (at : ℕ) (end : End) (t : Transport) (byte : ℕ) → embedded_in t ≡ None → IsOfTransport at end t byte → (at ≤ byte) × IsOfTransport 0 end t (byte - at)
in_transport at end Fragment byte none of = absurd of
in_transport at end (Tcp t) byte none (inl (low, high)) = (omega arith, inl (omega arith, omega arith))
in_transport at end (Tcp t) byte none (inr (low, high)) = (omega arith, inr (omega arith, omega arith))
in_transport at end (Udp u) byte none (inl (low, high)) = (omega arith, inl (omega arith, omega arith))
in_transport at end (Udp u) byte none (inr (low, high)) = (omega arith, inr (omega arith, omega arith))
in_transport at end (Icmp i) byte none of =
    let all = in_message at end i.message byte none of in
    let least = all.0 in
    (omega arith, all.1)
in_transport at end Other byte none of = absurd of

-- in the header, none of its first 10 bytes, and none of the address at the other end
in_front : (end : End) (byte : ℕ) → byte < 10 → IsOfHeader 0 (of_end end 12 16) byte → ⊥
in_front end byte before (inl (low, high)) = let least = (end_most end).0 in absurd (omega arith)
in_front end byte before (inr (low, high)) = absurd (omega arith)

in_other : (end : End) (byte : ℕ) → of_other end 12 16 ≤ byte → byte < of_other end 12 16 + 4 → IsOfHeader 0 (of_end end 12 16) byte → ⊥
in_other Source byte least most (inl (low, high)) = absurd (omega arith)
in_other Source byte least most (inr (low, high)) = absurd (omega arith)
in_other Destination byte least most (inl (low, high)) = absurd (omega arith)
in_other Destination byte least most (inr (low, high)) = absurd (omega arith)

-- a byte of the header is written as one of the header alone, and one behind it as one of the transport
in_header : (p : Packet) (end : End) (byte : ℕ) → embedded_in p.transport ≡ None → byte < p.header_length → (IsOfHeader 0 (of_end end 12 16) byte → ⊥) → IsOfEnd p end byte → ⊥
in_header p end byte none before other (inl of) = other of
in_header p end byte none before other (inr of) = let least = (in_transport p.header_length end p.transport byte none of).0 in absurd (omega arith)

behind_header : (p : Packet) (end : End) (byte : ℕ) → embedded_in p.transport ≡ None → 20 ≤ p.header_length → IsOfEnd p end (p.header_length + byte) → IsOfTransport 0 end p.transport byte
behind_header p end byte none long (inl (inl (low, high))) = let most = (end_most end).1 in absurd (omega arith)
behind_header p end byte none long (inl (inr (low, high))) = absurd (omega arith)
behind_header p end byte none long (inr of) =
    let back : p.header_length + byte - p.header_length ≡ byte = omega arith in
    subst (λ (n : ℕ). IsOfTransport 0 end p.transport n) back (in_transport p.header_length end p.transport (p.header_length + byte) none of).1

stays_behind : (p : Packet) (end : End) (now d : List ℕ) → embedded_in p.transport ≡ None → 20 ≤ p.header_length → Stays (IsOfEnd p end) now d → Stays (IsOfTransport 0 end p.transport) (drop p.header_length now) (drop p.header_length d)
stays_behind p end now d none long stays =
    λ byte aside.
    get_or-drop p.header_length now byte 0
    ∙ stays (p.header_length + byte) (λ of. aside (behind_header p end byte none long of))
    ∙ sym (get_or-drop p.header_length d byte 0)

-- ---- what stands behind the header afterwards

-- the numbers of both ends, if the number of one end was written and the other one stays
ends_read : (end : End) (n a b value first second : ℕ) (now old : List ℕ) → big_number n (drop (of_end end a b) now) ≡ value → big_number n (drop (of_other end a b) now) ≡ big_number n (drop (of_other end a b) old) → first ≡ big_number n (drop a old) → second ≡ big_number n (drop b old) → (of_end end value first ≡ big_number n (drop a now)) × (of_end end second value ≡ big_number n (drop b now))
ends_read Source n a b value first second now old read same is_first is_second = (sym read, is_second ∙ sym same)
ends_read Destination n a b value first second now old read same is_first is_second = (is_first ∙ sym same, sym read)

-- a translation by both of its ends
tcp_ends : (end : End) (port : Port) (t : TcpHeader) → record t { source = record { 0 = of_end end port.0 t.source.0 }; destination = record { 0 = of_end end t.destination.0 port.0 } } ≡ tcp_with end port t
tcp_ends Source port t = refl
tcp_ends Destination port t = refl

udp_ends : (end : End) (port : Port) (u : UdpHeader) → record u { source = record { 0 = of_end end port.0 u.source.0 }; destination = record { 0 = of_end end u.destination.0 port.0 } } ≡ udp_with end port u
udp_ends Source port u = refl
udp_ends Destination port u = refl

packet_ends : (end : End) (to : Endpoint) (p : Packet) → record p { source = record { 0 = of_end end to.address.0 p.source.0 }; destination = record { 0 = of_end end p.destination.0 to.address.0 }; transport = transport_with end to.port p.transport } ≡ translated end to p
packet_ends Source to p = refl
packet_ends Destination to p = refl

-- the bytes from a place on, where all of them are the same
rest_same : (place : ℕ) (now old : List ℕ) → length now ≡ length old → ((byte : ℕ) → place ≤ byte → slice_index now byte ≡ slice_index old byte) → drop place now ≡ drop place old
rest_same place now old size same =
    same_number_lists (drop place now) (drop place old) (length-drop place now ∙ ap (λ (n : ℕ). n - place) size ∙ sym (length-drop place old))
    (λ k within. get_or-drop place now k 0 ∙ same (place + k) (omega arith) ∙ sym (get_or-drop place old k 0))

-- of a TCP or UDP header, none of the port at the other end
aside_port : (end : End) (checksum byte : ℕ) → 4 ≤ checksum → of_other end 0 2 ≤ byte → byte < of_other end 0 2 + 2 → IsIn (0 + of_end end 0 2) 2 byte ⊎ IsIn (0 + checksum) 2 byte → ⊥
aside_port Source checksum byte far least most (inl (low, high)) = absurd (omega arith)
aside_port Source checksum byte far least most (inr (low, high)) = absurd (omega arith)
aside_port Destination checksum byte far least most (inl (low, high)) = absurd (omega arith)
aside_port Destination checksum byte far least most (inr (low, high)) = absurd (omega arith)

-- and of a TCP header none behind the ports but the checksum
between_tcp : (end : End) (byte : ℕ) → 4 ≤ byte → (byte < 16) ⊎ (18 ≤ byte) → IsOfTcp 0 (of_end end 0 2) byte → ⊥
between_tcp end byte least side (inl (low, high)) = let most = (end_most end).2 in absurd (omega arith)
between_tcp end byte least (inl before) (inr (low, high)) = absurd (omega arith)
between_tcp end byte least (inr after) (inr (low, high)) = absurd (omega arith)

tcp_translated : (end : End) (port : Port) (whole : ℕ) (now old : List ℕ) (t : TcpHeader) → length now ≡ length old → Stays (IsOfTcp 0 (of_end end 0 2)) now old → word_at now (of_end end 0 2) ≡ port.0 → IsTcp whole old t → IsTcp whole now (tcp_with end port t)
tcp_translated end port whole now old t size stays read is =
    let middle : Agree 4 16 now old = λ byte low high. stays byte (between_tcp end byte low (inl high)) in
    let offset = middle 12 (omega arith) (omega arith) in
    let flags = middle 13 (omega arith) (omega arith) in
    let options = rest_same 20 now old size (λ byte low. stays byte (between_tcp end byte (omega arith) (inr (omega arith)))) in
    let place : ℕ = of_other end 0 2 in
    let aside : Agree place (place + 2) now old = λ byte low high. stays byte (aside_port end 16 byte (omega arith) low high) in
    let other = number_same 2 place place (place + 2) now old aside (omega arith) (omega arith) in
    let ends = ends_read end 2 0 2 port.0 t.source.0 t.destination.0 now old read other is.source is.destination in
    subst (λ (u : TcpHeader). IsTcp whole now u) (tcp_ends end port t) (record {
      at_least = rw offset is.at_least;
      captured = rw (offset, size) is.captured;
      within_total = rw offset is.within_total;
      source = ends.0;
      destination = ends.1;
      sequence = is.sequence ∙ sym (number_same 4 4 4 16 now old middle (omega arith) (omega arith));
      acknowledgement = is.acknowledgement ∙ sym (number_same 4 8 4 16 now old middle (omega arith) (omega arith));
      header_length = rw offset is.header_length;
      flags = rw flags is.flags;
      window = is.window ∙ sym (number_same 2 14 4 16 now old middle (omega arith) (omega arith));
      window_scale = rw (offset, flags, options) is.window_scale;
      payload_length = rw offset is.payload_length;
    })

udp_translated : (end : End) (port : Port) (whole : ℕ) (now old : List ℕ) (u : UdpHeader) → length now ≡ length old → Stays (IsOfUdp 0 (of_end end 0 2)) now old → word_at now (of_end end 0 2) ≡ port.0 → IsUdp whole old u → IsUdp whole now (udp_with end port u)
udp_translated end port whole now old u size stays read is =
    let place : ℕ = of_other end 0 2 in
    let aside : Agree place (place + 2) now old = λ byte low high. stays byte (aside_port end 6 byte (omega arith) low high) in
    let other = number_same 2 place place (place + 2) now old aside (omega arith) (omega arith) in
    let ends = ends_read end 2 0 2 port.0 u.source.0 u.destination.0 now old read other is.source is.destination in
    subst (λ (v : UdpHeader). IsUdp whole now v) (udp_ends end port u) (record {
      captured = rw size is.captured;
      within_total = is.within_total;
      source = ends.0;
      destination = ends.1;
      payload_length = is.payload_length;
    })

-- what is to be read of a message, or of any transport, at the place that is written
abbrev ReadsMessage : IcmpMessage → Port → List ℕ → Type 0
ReadsMessage (message.Echo identifier) port now = word_at now 4 ≡ port.0
ReadsMessage _ port now = ⊤

abbrev ReadsPort : End → Transport → Port → List ℕ → Type 0
ReadsPort end (Tcp t) port now = word_at now (of_end end 0 2) ≡ port.0
ReadsPort end (Udp u) port now = word_at now (of_end end 0 2) ≡ port.0
ReadsPort end (Icmp i) port now = ReadsMessage i.message port now
ReadsPort end _ port now = ⊤

-- nothing is written into a message of another kind, so it still embeds no packet
message_translated : (end : End) (port : Port) (kind : ℕ) (now old : List ℕ) (m : IcmpMessage) → embedded_by m ≡ None → length now ≡ length old → Stays (IsOfMessage 0 end m) now old → ReadsMessage m port now → IsMessage kind old m → IsMessage kind now (message_with port m)
message_translated end port kind now old (message.Echo identifier) none size stays read is = (is.0, sym read)
message_translated end port kind now old (message.Error inner) none size stays read is = absurd (cc)
message_translated end port kind now old message.Other none size stays read is =
    subst (λ (s : List ℕ). IsMessage kind s message.Other) (sym (rest_same 0 now old size (λ byte low. stays byte (λ of. of)))) is

icmp_translated : (end : End) (port : Port) (whole : ℕ) (now old : List ℕ) (i : IcmpHeader) → embedded_by i.message ≡ None → length now ≡ length old → Stays (IsOfMessage 0 end i.message) now old → ReadsMessage i.message port now → IsIcmp whole old i → IsIcmp whole now (record i { message = message_with port i.message })
icmp_translated end port whole now old i none size stays read is =
    let head : Agree 0 2 now old = λ byte low high. stays byte (λ of. let least = (in_message 0 end i.message byte none of).0 in absurd (omega arith)) in
    let kind = head 0 (omega arith) (omega arith) in
    let code = head 1 (omega arith) (omega arith) in
    record {
      captured = rw size is.captured;
      within_total = is.within_total;
      kind = rw kind is.kind;
      code = rw code is.code;
      message = rw kind (message_translated end port (slice_index old 0) now old i.message none size stays read is.message);
    }

transport_translated : (protocol : ℕ) (fragment : Bool) (whole : ℕ) (end : End) (port : Port) (now old : List ℕ) (t : Transport) → embedded_in t ≡ None → length now ≡ length old → Stays (IsOfTransport 0 end t) now old → ReadsPort end t port now → IsTransport protocol fragment whole old t → IsTransport protocol fragment whole now (transport_with end port t)
transport_translated protocol fragment whole end port now old Fragment none size stays read is = is
transport_translated protocol fragment whole end port now old (Tcp t) none size stays read is = (is.0, is.1, tcp_translated end port whole now old t size stays read is.2)
transport_translated protocol fragment whole end port now old (Udp u) none size stays read is = (is.0, is.1, udp_translated end port whole now old u size stays read is.2)
transport_translated protocol fragment whole end port now old (Icmp i) none size stays read is = (is.0, is.1, icmp_translated end port whole now old i none size stays read is.2)
transport_translated protocol fragment whole end port now old Other none size stays read is = is

-- ---- the datagram afterwards

packet_translated : (p : Packet) (end : End) (to : Endpoint) (now d : List ℕ) → embedded_in p.transport ≡ None → length now ≡ length d → Stays (IsOfEnd p end) now d → big_number 4 (drop (of_end end 12 16) now) ≡ to.address.0 → ReadsPort end p.transport to.port (drop p.header_length now) → IsPacket d p → IsPacket now (translated end to p)
packet_translated p end to now d none size stays read_address read_port is =
    let h = is.header in
    let from = header_length_of d in
    let is_from = h.header_length in
    let least = h.at_least in
    let front : Agree 0 10 now d = λ byte low high. stays byte (in_header p end byte none (omega arith) (in_front end byte high)) in
    let first = front 0 (omega arith) (omega arith) in
    let total = number_same 2 2 0 10 now d front (omega arith) (omega arith) in
    let part = number_same 2 6 0 10 now d front (omega arith) (omega arith) in
    let protocol = front 9 (omega arith) (omega arith) in
    let place : ℕ = of_other end 12 16 in
    let most = other_most end in
    let aside : Agree place (place + 4) now d = λ byte low high. stays byte (in_header p end byte none (omega arith) (in_other end byte low high)) in
    let other = number_same 4 place place (place + 4) now d aside (omega arith) (omega arith) in
    let ends = ends_read end 4 12 16 to.address.0 p.source.0 p.destination.0 now d read_address other h.source h.destination in
    let size_behind : length (drop from now) ≡ length (drop from d) = length-drop from now ∙ ap (λ (n : ℕ). n - from) size ∙ sym (length-drop from d) in
    let behind = transport_translated (slice_index d 9) (is_fragment d) (total_length_of d - from) end to.port (drop from now) (drop from d) p.transport none size_behind
    (subst (λ (n : ℕ). Stays (IsOfTransport 0 end p.transport) (drop n now) (drop n d)) is_from (stays_behind p end now d none (omega arith) stays))
    (subst (λ (n : ℕ). ReadsPort end p.transport to.port (drop n now)) is_from read_port)
    is.transport in
    subst (λ (q : Packet). IsPacket now q) (packet_ends end to p) (record {
      header = record {
        version = rw first h.version;
        header_length = rw first h.header_length;
        at_least = rw first h.at_least;
        captured = rw (first, size) h.captured;
        total_length = h.total_length ∙ sym total;
        within_total = rw (first, total) h.within_total;
        protocol = rw protocol h.protocol;
        source = ends.0;
        destination = ends.1;
      };
      transport = rw (first, total, part, protocol) behind;
    })

-- ---- what was written is read

-- the first of two words
first_read : (first second : Word) (bytes : List ℕ) → first.place + 2 ≤ length bytes → Beside (length bytes) first.place second → first.value < 65536 → word_at (with_words (first ∷ (second ∷ [])) bytes) first.place ≡ first.value
first_read first second bytes within beside small =
    let size = length_with first bytes within in
    kept second (with_word first bytes) first.place (rw size beside) ∙ read_at first.place first.value bytes within small

message_read : (d bytes : List ℕ) (at : ℕ) (port : Port) (m : IcmpMessage) → port.0 < 65536 → at + 8 ≤ length bytes → ReadsMessage m port (drop at (with_words (echo_or_none d at port m) bytes))
unfolding echo_words
message_read d bytes at port (message.Echo identifier) small room =
    word_behind at 4 (with_words (echo_words d at port) bytes)
    ∙ first_read (word (at + 4) port.0) _ bytes (omega arith) (record { within = omega arith; beside = inl (omega arith) }) small
message_read d bytes at port (message.Error inner) small room = record {}
message_read d bytes at port message.Other small room = record {}

port_at : (now : List ℕ) (at : ℕ) (end : End) → word_at (drop at now) (of_end end 0 2) ≡ word_at now (at + port_place end)
port_at now at Source = word_behind at 0 now
port_at now at Destination = word_behind at 2 now

port_read : (d bytes : List ℕ) (at : ℕ) (end : End) (addresses : ℕ) (port : Port) (t : Transport) → port.0 < 65536 → BehindFits (length bytes) at t → ReadsPort end t port (drop at (with_words (behind_words d at end addresses port t) bytes))
unfolding tcp_words udp_words
port_read d bytes at end addresses port Fragment small fits = record {}
port_read d bytes at end addresses port (Tcp t) small fits =
    let most = port_most end in
    port_at (with_words (tcp_words d at end addresses port) bytes) at end
    ∙ first_read (word (at + port_place end) port.0) _ bytes (omega arith) (record { within = omega arith; beside = inr (omega arith) }) small
port_read d bytes at end addresses port (Udp u) small fits =
    let most = port_most end in
    port_at (with_words (udp_words d at end addresses port) bytes) at end
    ∙ first_read (word (at + port_place end) port.0) _ bytes (omega arith) (record { within = omega arith; beside = inr (omega arith) }) small
port_read d bytes at end addresses port (Icmp i) small fits = message_read d bytes at port i.message small fits
port_read d bytes at end addresses port Other small fits = record {}

-- a word in front of the transport stays when the transport is written
message_kept : (d bytes : List ℕ) (at : ℕ) (port : Port) (m : IcmpMessage) (place : ℕ) → at + 8 ≤ length bytes → place + 2 ≤ at → word_at (with_words (echo_or_none d at port m) bytes) place ≡ word_at bytes place
message_kept d bytes at port (message.Echo identifier) place room before = outside (echo_words d at port) bytes at (at + 8) place (echo_span d at port) room (inr before)
message_kept d bytes at port (message.Error inner) place room before = refl
message_kept d bytes at port message.Other place room before = refl

behind_kept : (d bytes : List ℕ) (at : ℕ) (end : End) (addresses : ℕ) (port : Port) (t : Transport) (place : ℕ) → BehindFits (length bytes) at t → place + 2 ≤ at → word_at (with_words (behind_words d at end addresses port t) bytes) place ≡ word_at bytes place
behind_kept d bytes at end addresses port Fragment place fits before = refl
behind_kept d bytes at end addresses port (Tcp t) place fits before = outside (tcp_words d at end addresses port) bytes at (at + 20) place (tcp_span d at end addresses port) fits (inr before)
behind_kept d bytes at end addresses port (Udp u) place fits before = outside (udp_words d at end addresses port) bytes at (at + 8) place (udp_span d at end addresses port) fits (inr before)
behind_kept d bytes at end addresses port (Icmp i) place fits before = message_kept d bytes at port i.message place fits before
behind_kept d bytes at end addresses port Other place fits before = refl

-- an address is its two words
number_words : (place : ℕ) (bytes : List ℕ) → big_number 4 (drop place bytes) ≡ 65536 * word_at bytes place + word_at bytes (place + 2)
number_words place bytes =
    let third : slice_index (drop place bytes) 2 ≡ slice_index (drop (place + 2) bytes) 0 = get_or-drop place bytes 2 0 ∙ ap (λ (n : ℕ). slice_index bytes n) (omega arith) ∙ sym (get_or-drop (place + 2) bytes 0 0) in
    let fourth : slice_index (drop place bytes) 3 ≡ slice_index (drop (place + 2) bytes) 1 = get_or-drop place bytes 3 0 ∙ ap (λ (n : ℕ). slice_index bytes n) (omega arith) ∙ sym (get_or-drop (place + 2) bytes 1 0) in
    omega (arith, third, fourth)

header_read : (d : List ℕ) (end : End) (address : Ipv4Address) → 20 ≤ length d → address.0 < 4294967296
    → (word_at (with_words (header_words d 0 end address) d) (0 + address_place end) ≡ address.0 / 65536) × (word_at (with_words (header_words d 0 end address) d) (0 + address_place end + 2) ≡ address.0 % 65536)
unfolding header_words
header_read d end address room small =
    let place : ℕ = 0 + address_place end in
    let least = address_least end in
    let most = address_most end in
    let high = word place (address.0 / 65536) in
    let low = word (place + 2) (address.0 % 65536) in
    let one = with_word high d in
    let two = with_word low one in
    let size_one = length_with high d (omega arith) in
    let size_two = length_with low one (omega (arith, size_one)) in (
      kept_behind 10 _ place two (omega (arith, size_one, size_two)) (omega arith)
          ∙ kept_before (place + 2) low.value place one (omega (arith, size_one)) (omega arith)
          ∙ read_at place high.value d (omega arith) (omega arith),
      kept_behind 10 _ (place + 2) two (omega (arith, size_one, size_two)) (omega arith) ∙ read_at (place + 2) low.value one (omega (arith, size_one)) (omega arith),
    )

address_place_is : (end : End) → of_end end 12 16 ≡ 0 + address_place end
address_place_is Source = refl
address_place_is Destination = refl

address_read : (d bytes : List ℕ) (at : ℕ) (end : End) (addresses : ℕ) (to : Endpoint) (t : Transport) → bytes ≡ with_words (header_words d 0 end to.address) d → 20 ≤ length d → 20 ≤ at → BehindFits (length bytes) at t → to.address.0 < 4294967296 → big_number 4 (drop (of_end end 12 16) (with_words (behind_words d at end addresses to.port t) bytes)) ≡ to.address.0
address_read d bytes at end addresses to t is room long fits small =
    let place : ℕ = 0 + address_place end in
    let most = address_most end in
    let now = with_words (behind_words d at end addresses to.port t) bytes in
    let words = header_read d end to.address room small in
    let high : word_at now place ≡ to.address.0 / 65536 = behind_kept d bytes at end addresses to.port t place fits (omega arith) ∙ (rw is words.0) in
    let low : word_at now (place + 2) ≡ to.address.0 % 65536 = behind_kept d bytes at end addresses to.port t (place + 2) fits (omega arith) ∙ (rw is words.1) in
    ap (λ (n : ℕ). big_number 4 (drop n now)) (address_place_is end) ∙ number_words place now ∙ omega (arith, high, low)

-- ---- the frame

datagram_translated : (d : List ℕ) (change : Change) → packet_of change.packet.sender d ≡ Some change.packet → embedded_in change.packet.transport ≡ None → change.to.address.0 < 4294967296 → change.to.port.0 < 65536 → IsPacket (with_words (words_of d change) d) (translated change.end change.to change.packet)
unfolding packet_words
datagram_translated d change there none small_address small_port =
    let p = change.packet in
    let end = change.end in
    let to = change.to in
    let room = header_room d p there in
    let long = room.0 in
    let most = room.1 in
    let header = header_words d 0 end to.address in
    let bytes = with_words header d in
    let size = header_within d 0 end to.address (omega arith) in
    let fits : BehindFits (length bytes) p.header_length p.transport = rw size (transport_room d p there) in
    let addresses = difference_of d (address_words (address_place end) to.address) in
    let behind = behind_words d p.header_length end addresses to.port p.transport in
    let joined : with_words (words_of d change) d ≡ with_words behind bytes = ap (λ (ws : List Word). with_words ws d) (alone d change none) ∙ with_append header behind d in
    packet_translated p end to (with_words (words_of d change) d) d none (datagram_length d change there) (λ byte aside. datagram_byte d change byte there aside)
    (rw joined (address_read d bytes p.header_length end addresses to p.transport refl (omega arith) long fits small_address))
    (rw joined (port_read d bytes p.header_length end addresses to.port p.transport small_port fits)) (packet_by d p there)

kept_sender : (end : End) (to : Endpoint) (p : Packet) → (translated end to p).sender ≡ p.sender
kept_sender Source to p = refl
kept_sender Destination to p = refl

frame_translated_at : (link : ℕ) (bytes : List ℕ) (change : Change) (found : Option ℕ) → place_of link bytes ≡ found → view_of link bytes ≡ Ipv4 change.packet → embedded_in change.packet.transport ≡ None → change.to.address.0 < 4294967296 → change.to.port.0 < 65536 → view_of link (rewritten link change bytes) ≡ Ipv4 (translated change.end change.to change.packet)
unfolding view_of
frame_translated_at link bytes change None at is none small_address small_port =
    absurd (let e : Skip ≡ Ipv4 change.packet = rw at at is in cc)
frame_translated_at link bytes change (Some place) at is none small_address small_port =
    let p = change.packet in
    let end = change.end in
    let now = rewritten link change bytes in
    let there = packet_there link place bytes p at is in
    let long = (header_room (drop place bytes) p there).0 in
    let front : Agree 0 place now bytes = λ byte low high. frame_byte link bytes change place byte is at (λ behind. absurd (omega arith)) in
    let first = frame_byte link bytes change place place is at (λ behind. in_header p end (place - place) none (omega arith) (in_front end (place - place) (omega arith))) in
    let holds = holds_same link now bytes place (frame_length link bytes change is) front first (place_by link bytes place at) in
    let packet : IsPacket (drop place now) (translated end change.to p) = rw (datagram_at link place bytes change is at) (datagram_translated (drop place bytes) change there none small_address small_port) in
    let sender : (translated end change.to p).sender ≡ sender_of link now = kept_sender end change.to p ∙ sender_there link place bytes p at is ∙ sym (sender_same link now bytes place (frame_length link bytes change is) front (place_by link bytes place at)) in
    sym (view_is link now (Ipv4 (translated end change.to p)) (place, holds, packet, sender))

pub frame_translated : (link : ℕ) (bytes : List ℕ) (change : Change) → view_of link bytes ≡ Ipv4 change.packet → embedded_in change.packet.transport ≡ None → change.to.address.0 < 4294967296 → change.to.port.0 < 65536 → view_of link (rewritten link change bytes) ≡ Ipv4 (translated change.end change.to change.packet)
frame_translated link bytes change is none small_address small_port = frame_translated_at link bytes change _ refl is none small_address small_port
