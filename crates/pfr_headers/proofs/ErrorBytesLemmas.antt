-- Where an ICMP error is written, what of it stays, and what is read of it afterwards.
use Rattle.std.proofs.Common.{◌≡◌, ◌⊎◌, inl, inr, ◌≤◌, ◌<◌, ◌-◌, ◌+◌, ◌*◌, ◌/◌, ◌%◌, ◌++◌, ℕ, zero, suc, Bool, true, false, eqb, List, ◌∷◌, length, drop, slice_index, Some, refl, sym, ◌∙◌, ap, subst, arith}
use Rattle.std.proofs.lemmas.List.{get_or-drop}
use Rattle.byteorder.specs.Endian.{big_from, big_number}
use Rattle.pfr_net.specs.declared.address.Ipv4Address.{Ipv4Address}
use Rattle.pfr_net.specs.declared.endpoint.Endpoint.{Endpoint}
use Rattle.pfr_headers.specs.declared.change.Change.{Change}
use Rattle.pfr_headers.specs.declared.change.End.{End}
use Rattle.pfr_headers.specs.declared.change.End.TheVariants.{Source, Destination}
use Rattle.pfr_headers.specs.declared.icmp.IcmpHeader.{IcmpHeader}
use Rattle.pfr_headers.specs.declared.icmp.IcmpMessage.{IcmpMessage}
use Rattle.pfr_headers.specs.declared.icmp.IcmpMessage.TheVariants as message
use Rattle.pfr_headers.specs.declared.icmp.Inner.{Inner}
use Rattle.pfr_headers.specs.declared.packet.Packet.{Packet}
use Rattle.pfr_headers.specs.declared.transport.Transport.{Transport}
use Rattle.pfr_headers.specs.declared.transport.Transport.TheVariants.{Icmp}
use Rattle.pfr_headers.specs.Checksum.{Word, difference_of, mended, with_word, with_words, word, word_at}
use Rattle.pfr_headers.specs.Laws.{IsIn, IsOfEmbedded, IsOfEnd, IsOfHeader, IsOfMessage, IsOfTransport, of_end, of_other}
use Rattle.pfr_headers.specs.Rewriting.{address_place, address_words, embedded_in, embedded_words, end_address, error_words, header_words, inner_words, other_end, outer_words, words_of}
use Rattle.pfr_headers.specs.View.{packet_of}
use Rattle.pfr_headers.proofs.FieldLemmas.{datagram_byte}
use Rattle.pfr_headers.proofs.FrontLemmas.{Agree, agree_behind}
use Rattle.pfr_headers.proofs.RewritingLemmas.{address_least, address_most, header_room, header_span, inner_room}
use Rattle.pfr_headers.proofs.VerifyingLemmas.{all_within, read_at}
use Rattle.pfr_headers.proofs.WordLemmas.{Spans, kept_before, kept_behind, length_with, length_with_all, spans_wider, with_append}

-- an address is its two words
pub number_words : (place : ℕ) (bytes : List ℕ) → big_number 4 (drop place bytes) ≡ 65536 * word_at bytes place + word_at bytes (place + 2)
number_words place bytes =
    let third : slice_index (drop place bytes) 2 ≡ slice_index (drop (place + 2) bytes) 0 = get_or-drop place bytes 2 0 ∙ ap (λ (n : ℕ). slice_index bytes n) (omega arith) ∙ sym (get_or-drop (place + 2) bytes 0 0) in
    let fourth : slice_index (drop place bytes) 3 ≡ slice_index (drop (place + 2) bytes) 1 = get_or-drop place bytes 3 0 ∙ ap (λ (n : ℕ). slice_index bytes n) (omega arith) ∙ sym (get_or-drop (place + 2) bytes 1 0) in
    omega (arith, third, fourth)

-- ---- an error

-- a datagram that is translated is an error that embeds a packet
pub record IsErrorIn (d : List ℕ) (change : Change) (icmp : IcmpHeader) (inner : Inner) : Type 0 where
  pub there : packet_of change.packet.sender d ≡ Some change.packet
  pub is_icmp : change.packet.transport ≡ Icmp icmp
  pub is_error : icmp.message ≡ message.Error inner

pub embeds : (d : List ℕ) (change : Change) (icmp : IcmpHeader) (inner : Inner) → IsErrorIn d change icmp inner → embedded_in change.packet.transport ≡ Some inner
embeds d change icmp inner e = rw (e.is_icmp, e.is_error) refl

-- the lengths of its header and of the embedded one
pub error_room : (d : List ℕ) (change : Change) (icmp : IcmpHeader) (inner : Inner) → IsErrorIn d change icmp inner → (20 ≤ change.packet.header_length) × (20 ≤ inner.header_length) × (change.packet.header_length + 8 + inner.header_length + 8 ≤ length d)
error_room d change icmp inner e =
    let fits = inner_room d change.packet inner e.there (embeds d change icmp inner e) in
    ((header_room d change.packet e.there).0, fits.header, fits.behind)

-- ---- where it is written

-- an address or the checksum of its header, its checksum, and the end of the embedded packet
abbrev pub IsOfError : ℕ → Inner → End → ℕ → Type 0
IsOfError from inner end byte =
    IsOfHeader 0 (of_end end 12 16) byte ⊎ (IsIn (from + 2) 2 byte ⊎ (IsOfHeader (from + 8) (of_other end 12 16) byte ⊎ IsOfEmbedded inner.protocol.0 (from + 8 + inner.header_length) (of_other end 0 2) byte))

is_of_error : (d : List ℕ) (change : Change) (icmp : IcmpHeader) (inner : Inner) (byte : ℕ) → IsErrorIn d change icmp inner → IsOfEnd change.packet change.end byte → IsOfError change.packet.header_length inner change.end byte
is_of_error d change icmp inner byte e (inl of) = inl of
is_of_error d change icmp inner byte e (inr of) =
    inr (subst (λ (m : IcmpMessage). IsOfMessage change.packet.header_length change.end m byte) e.is_error
    (subst (λ (t : Transport). IsOfTransport change.packet.header_length change.end t byte) e.is_icmp of))

-- any other byte stays
pub unwritten : (d : List ℕ) (change : Change) (icmp : IcmpHeader) (inner : Inner) (byte : ℕ) → IsErrorIn d change icmp inner → (IsOfError change.packet.header_length inner change.end byte → ⊥) → slice_index (with_words (words_of d change) d) byte ≡ slice_index d byte
unwritten d change icmp inner byte e aside = datagram_byte d change byte e.there (λ of. aside (is_of_error d change icmp inner byte e of))

pub ends_most : (end : End) → (12 ≤ of_end end 12 16) × (of_end end 12 16 ≤ 16) × (of_end end 0 2 ≤ 2) × (12 ≤ of_other end 12 16) × (of_other end 12 16 ≤ 16) × (of_other end 0 2 ≤ 2)
ends_most Source = (omega arith, omega arith, omega arith, omega arith, omega arith, omega arith)
ends_most Destination = (omega arith, omega arith, omega arith, omega arith, omega arith, omega arith)

in_header : (at address byte : ℕ) → 12 ≤ address → address ≤ 16 → IsOfHeader at address byte → (at + 10 ≤ byte) × (byte < at + 20)
in_header at address byte least most (inl (low, high)) = (omega arith, omega arith)
in_header at address byte least most (inr (low, high)) = (omega arith, omega arith)

in_embedded : (protocol at port byte : ℕ) → port ≤ 2 → IsOfEmbedded protocol at port byte → (at ≤ byte) × (byte < at + 8)
in_embedded protocol at port byte most (inl (is, (low, high))) = (omega arith, omega arith)
in_embedded protocol at port byte most (inr (inl (is, inl (low, high)))) = (omega arith, omega arith)
in_embedded protocol at port byte most (inr (inl (is, inr (low, high)))) = (omega arith, omega arith)
in_embedded protocol at port byte most (inr (inr (is, (low, high)))) = (omega arith, omega arith)

-- the four parts of a datagram in which it lies
abbrev LiesIn : ℕ → ℕ → ℕ → Type 0
LiesIn from header byte =
    ((10 ≤ byte) × (byte < 20)) ⊎ (((from + 2 ≤ byte) × (byte < from + 4)) ⊎ (((from + 18 ≤ byte) × (byte < from + 28)) ⊎ ((from + 8 + header ≤ byte) × (byte < from + 8 + header + 8))))

lies_in : (from : ℕ) (inner : Inner) (end : End) (byte : ℕ) → IsOfError from inner end byte → LiesIn from inner.header_length byte
lies_in from inner end byte (inl of) =
    let ends = ends_most end in
    let part = in_header 0 (of_end end 12 16) byte ends.0 ends.1 of in
    let least = part.0 in
    let most = part.1 in
    inl (omega arith, omega arith)
lies_in from inner end byte (inr (inl (low, high))) = inr (inl (omega arith, omega arith))
lies_in from inner end byte (inr (inr (inl of))) =
    let ends = ends_most end in
    let part = in_header (from + 8) (of_other end 12 16) byte ends.3 ends.4 of in
    let least = part.0 in
    let most = part.1 in
    inr (inr (inl (omega arith, omega arith)))
lies_in from inner end byte (inr (inr (inr of))) =
    let ends = ends_most end in
    let part = in_embedded inner.protocol.0 (from + 8 + inner.header_length) (of_other end 0 2) byte ends.5 of in
    inr (inr (inr part))

not_first : (from header byte : ℕ) → 20 ≤ from → LiesIn from header byte → byte < 10 → ⊥
not_first from header byte long (inl (low, high)) before = absurd (omega arith)
not_first from header byte long (inr (inl (low, high))) before = absurd (omega arith)
not_first from header byte long (inr (inr (inl (low, high)))) before = absurd (omega arith)
not_first from header byte long (inr (inr (inr (low, high)))) before = absurd (omega arith)

not_kind : (from header byte : ℕ) → 20 ≤ from → LiesIn from header byte → from ≤ byte → byte < from + 2 → ⊥
not_kind from header byte long (inl (low, high)) least most = absurd (omega arith)
not_kind from header byte long (inr (inl (low, high))) least most = absurd (omega arith)
not_kind from header byte long (inr (inr (inl (low, high)))) least most = absurd (omega arith)
not_kind from header byte long (inr (inr (inr (low, high)))) least most = absurd (omega arith)

not_between : (from header byte : ℕ) → 20 ≤ from → 20 ≤ header → LiesIn from header byte → from + 4 ≤ byte → byte < from + 18 → ⊥
not_between from header byte long more (inl (low, high)) least most = absurd (omega arith)
not_between from header byte long more (inr (inl (low, high))) least most = absurd (omega arith)
not_between from header byte long more (inr (inr (inl (low, high)))) least most = absurd (omega arith)
not_between from header byte long more (inr (inr (inr (low, high)))) least most = absurd (omega arith)

-- ---- the other ends

pub apart : (end : End) → ((of_end end 12 16 + 4 ≤ of_other end 12 16) ⊎ (of_other end 12 16 + 4 ≤ of_end end 12 16)) × ((of_end end 0 2 + 2 ≤ of_other end 0 2) ⊎ (of_other end 0 2 + 2 ≤ of_end end 0 2))
apart Source = (inl (omega arith), inl (omega arith))
apart Destination = (inr (omega arith), inr (omega arith))

-- the address that isn't written
not_written : (at a b byte : ℕ) → 12 ≤ b → (a + 4 ≤ b) ⊎ (b + 4 ≤ a) → at + b ≤ byte → byte < at + b + 4 → IsOfHeader at a byte → ⊥
not_written at a b byte far (inl before) least most (inl (low, high)) = absurd (omega arith)
not_written at a b byte far (inr after) least most (inl (low, high)) = absurd (omega arith)
not_written at a b byte far side least most (inr (low, high)) = absurd (omega arith)

pub not_own : (from : ℕ) (inner : Inner) (end : End) (byte : ℕ) → 20 ≤ from → of_other end 12 16 ≤ byte → byte < of_other end 12 16 + 4 → IsOfError from inner end byte → ⊥
not_own from inner end byte long low high (inl of) = not_written 0 (of_end end 12 16) (of_other end 12 16) byte (ends_most end).3 (apart end).0 (omega arith) (omega arith) of
not_own from inner end byte long low high (inr (inl (least, most))) = let far = (ends_most end).4 in absurd (omega arith)
not_own from inner end byte long low high (inr (inr (inl of))) =
    let ends = ends_most end in
    let far = ends.4 in
    let least = (in_header (from + 8) (of_other end 12 16) byte ends.3 ends.4 of).0 in
    absurd (omega arith)
not_own from inner end byte long low high (inr (inr (inr of))) =
    let ends = ends_most end in
    let far = ends.4 in
    let least = (in_embedded inner.protocol.0 (from + 8 + inner.header_length) (of_other end 0 2) byte ends.5 of).0 in
    absurd (omega arith)

pub other_side : (a b : ℕ) (n : ℕ) → (a + n ≤ b) ⊎ (b + n ≤ a) → (b + n ≤ a) ⊎ (a + n ≤ b)
other_side a b n (inl before) = inr before
other_side a b n (inr after) = inl after

pub not_embedded : (from : ℕ) (inner : Inner) (end : End) (byte : ℕ) → 20 ≤ from → 20 ≤ inner.header_length → from + 8 + of_end end 12 16 ≤ byte → byte < from + 8 + of_end end 12 16 + 4 → IsOfError from inner end byte → ⊥
not_embedded from inner end byte long more low high (inl of) =
    let ends = ends_most end in
    let near = ends.0 in
    let most = (in_header 0 (of_end end 12 16) byte ends.0 ends.1 of).1 in
    absurd (omega arith)
not_embedded from inner end byte long more low high (inr (inl (least, most))) = let near = (ends_most end).0 in absurd (omega arith)
not_embedded from inner end byte long more low high (inr (inr (inl of))) =
    not_written (from + 8) (of_other end 12 16) (of_end end 12 16) byte (ends_most end).0 (other_side (of_end end 12 16) (of_other end 12 16) 4 (apart end).0) low high of
not_embedded from inner end byte long more low high (inr (inr (inr of))) =
    let ends = ends_most end in
    let far = ends.1 in
    let least = (in_embedded inner.protocol.0 (from + 8 + inner.header_length) (of_other end 0 2) byte ends.5 of).0 in
    absurd (omega arith)

-- of the embedded packet's transport, bytes of which none is written
pub not_behind : (from : ℕ) (inner : Inner) (end : End) (byte : ℕ) → 20 ≤ from → 20 ≤ inner.header_length → from + 8 + inner.header_length ≤ byte → (IsOfEmbedded inner.protocol.0 (from + 8 + inner.header_length) (of_other end 0 2) byte → ⊥) → IsOfError from inner end byte → ⊥
not_behind from inner end byte long more low none (inl of) =
    let ends = ends_most end in
    let most = (in_header 0 (of_end end 12 16) byte ends.0 ends.1 of).1 in
    absurd (omega arith)
not_behind from inner end byte long more low none (inr (inl (least, most))) = absurd (omega arith)
not_behind from inner end byte long more low none (inr (inr (inl of))) =
    let ends = ends_most end in
    let most = (in_header (from + 8) (of_other end 12 16) byte ends.3 ends.4 of).1 in
    absurd (omega arith)
not_behind from inner end byte long more low none (inr (inr (inr of))) = none of

pub not_port : (protocol at a b byte : ℕ) → (protocol ≡ 1 → ⊥) → b ≤ 2 → (a + 2 ≤ b) ⊎ (b + 2 ≤ a) → at + b ≤ byte → byte < at + b + 2 → IsOfEmbedded protocol at a byte → ⊥
not_port protocol at a b byte ported near (inl before) least most (inl (is, (low, high))) = absurd (omega arith)
not_port protocol at a b byte ported near (inr after) least most (inl (is, (low, high))) = absurd (omega arith)
not_port protocol at a b byte ported near (inl before) least most (inr (inl (is, inl (low, high)))) = absurd (omega arith)
not_port protocol at a b byte ported near (inr after) least most (inr (inl (is, inl (low, high)))) = absurd (omega arith)
not_port protocol at a b byte ported near side least most (inr (inl (is, inr (low, high)))) = absurd (omega arith)
not_port protocol at a b byte ported near side least most (inr (inr (is, of))) = ported is

pub not_echo_kind : (protocol at a byte : ℕ) → protocol ≡ 1 → byte < at + 2 → IsOfEmbedded protocol at a byte → ⊥
not_echo_kind protocol at a byte echo before (inl (is, of)) = absurd (omega arith)
not_echo_kind protocol at a byte echo before (inr (inl (is, of))) = absurd (omega arith)
not_echo_kind protocol at a byte echo before (inr (inr (is, (low, high)))) = absurd (omega arith)

-- ---- what stays

-- the datagram afterwards
abbrev pub written : List ℕ → Change → List ℕ
written d change = with_words (words_of d change) d

pub first_stay : (d : List ℕ) (change : Change) (icmp : IcmpHeader) (inner : Inner) → IsErrorIn d change icmp inner → Agree 0 10 (written d change) d
first_stay d change icmp inner e =
    λ byte low high. unwritten d change icmp inner byte e (λ of. not_first change.packet.header_length inner.header_length byte (error_room d change icmp inner e).0 (lies_in change.packet.header_length inner change.end byte of) high)

-- type and code
pub kind_stays : (d : List ℕ) (change : Change) (icmp : IcmpHeader) (inner : Inner) → IsErrorIn d change icmp inner → Agree change.packet.header_length (change.packet.header_length + 2) (written d change) d
kind_stays d change icmp inner e =
    λ byte low high. unwritten d change icmp inner byte e (λ of. not_kind change.packet.header_length inner.header_length byte (error_room d change icmp inner e).0 (lies_in change.packet.header_length inner change.end byte of) low high)

-- the first bytes of the embedded header
pub embedded_first_stay : (d : List ℕ) (change : Change) (icmp : IcmpHeader) (inner : Inner) → IsErrorIn d change icmp inner → Agree 0 10 (drop (change.packet.header_length + 8) (written d change)) (drop (change.packet.header_length + 8) d)
embedded_first_stay d change icmp inner e =
    let room = error_room d change icmp inner e in
    agree_behind (change.packet.header_length + 8) 0 10 (written d change) d
    (λ byte low high. unwritten d change icmp inner byte e (λ of. not_between change.packet.header_length inner.header_length byte room.0 room.1 (lies_in change.packet.header_length inner change.end byte of) (omega arith) (omega arith)))

-- ---- what is written

abbrev pub embedded_header : List ℕ → Packet → End → Endpoint → List Word
embedded_header d p end to = header_words d (p.header_length + 8) (other_end end) to.address

abbrev pub embedded_behind : List ℕ → Packet → Inner → End → Endpoint → List Word
embedded_behind d p inner end to =
    embedded_words d inner.protocol.0 (p.header_length + 8 + inner.header_length) (other_end end) (difference_of d (address_words (p.header_length + 8 + address_place (other_end end)) to.address)) to.port

abbrev pub own_checksum : List ℕ → Packet → Inner → End → Endpoint → Word
own_checksum d p inner end to = word (p.header_length + 2) (mended (word_at d (p.header_length + 2)) (difference_of d (inner_words d (p.header_length + 8) inner (other_end end) to)))

parts : (d : List ℕ) (p : Packet) (inner : Inner) (end : End) (to : Endpoint)
    → with_words (error_words d p inner end to) d ≡ with_words (outer_words d p inner end to) (with_word (own_checksum d p inner end to) (with_words (embedded_behind d p inner end to) (with_words (embedded_header d p end to) d)))
unfolding error_words inner_words
parts d p inner end to =
    with_append (embedded_header d p end to ++ embedded_behind d p inner end to) (own_checksum d p inner end to ∷ outer_words d p inner end to) d
    ∙ ap (λ (t : List ℕ). with_words (own_checksum d p inner end to ∷ outer_words d p inner end to) t) (with_append (embedded_header d p end to) (embedded_behind d p inner end to) d)

words_are : (d : List ℕ) (change : Change) (inner : Inner) → embedded_in change.packet.transport ≡ Some inner → words_of d change ≡ error_words d change.packet inner change.end change.to
unfolding words_of
words_are d change inner is = rw is refl

-- the embedded header is written, then what is behind it, the error's checksum, and the error's own header
pub written_is : (d : List ℕ) (change : Change) (icmp : IcmpHeader) (inner : Inner) → IsErrorIn d change icmp inner
    → written d change ≡ with_words (outer_words d change.packet inner change.end change.to) (with_word (own_checksum d change.packet inner change.end change.to) (with_words (embedded_behind d change.packet inner change.end change.to) (with_words (embedded_header d change.packet change.end change.to) d)))
written_is d change icmp inner e =
    ap (λ (ws : List Word). with_words ws d) (words_are d change inner (embeds d change icmp inner e)) ∙ parts d change.packet inner change.end change.to

pub span_length : (ws : List Word) (d : List ℕ) (low high : ℕ) → Spans low high ws → high ≤ length d → length (with_words ws d) ≡ length d
span_length ws d low high s within = length_with_all ws d (all_within ws low high (length d) s within)

outer_by : (d : List ℕ) (p : Packet) (inner : Inner) (end : End) (to : Endpoint) (same : Bool) → eqb (end_address end p.source p.destination).0 (end_address (other_end end) inner.source inner.destination).0 ≡ same → Spans 10 20 (outer_words d p inner end to)
unfolding outer_words
outer_by d p inner end to true e = rw e (header_span d 0 end to.address)
outer_by d p inner end to false e = rw e (record {})

outer_lies : (d : List ℕ) (p : Packet) (inner : Inner) (end : End) (to : Endpoint) → Spans 10 20 (outer_words d p inner end to)
outer_lies d p inner end to = outer_by d p inner end to _ refl

-- in front of the embedded packet
pub front_lies : (d : List ℕ) (p : Packet) (inner : Inner) (end : End) (to : Endpoint) → 20 ≤ p.header_length → Spans 10 (p.header_length + 8) (own_checksum d p inner end to ∷ outer_words d p inner end to)
front_lies d p inner end to long = (omega arith, omega arith, spans_wider (outer_words d p inner end to) 10 20 10 (p.header_length + 8) (outer_lies d p inner end to) (omega arith) (omega arith))

-- ---- what is read of it

-- an address that was written into a header, whatever the bytes before
pub header_read : (d bytes : List ℕ) (at : ℕ) (end : End) (address : Ipv4Address) → at + 20 ≤ length bytes → address.0 < 4294967296
    → (word_at (with_words (header_words d at end address) bytes) (at + address_place end) ≡ address.0 / 65536) × (word_at (with_words (header_words d at end address) bytes) (at + address_place end + 2) ≡ address.0 % 65536)
unfolding header_words
header_read d bytes at end address room small =
    let place : ℕ = at + address_place end in
    let least = address_least end in
    let most = address_most end in
    let high = word place (address.0 / 65536) in
    let low = word (place + 2) (address.0 % 65536) in
    let one = with_word high bytes in
    let two = with_word low one in
    let size_one = length_with high bytes (omega arith) in
    let size_two = length_with low one (omega (arith, size_one)) in (
      kept_behind (at + 10) _ place two (omega (arith, size_one, size_two)) (omega arith)
          ∙ kept_before (place + 2) low.value place one (omega (arith, size_one)) (omega arith)
          ∙ read_at place high.value bytes (omega arith) (omega arith),
      kept_behind (at + 10) _ (place + 2) two (omega (arith, size_one, size_two)) (omega arith) ∙ read_at (place + 2) low.value one (omega (arith, size_one)) (omega arith),
    )
