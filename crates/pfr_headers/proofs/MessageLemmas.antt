-- The checksum of an ICMP message still verifies after it is rewritten, that of an error with the packet that it embeds.
use Rattle.std.specs.Prelude.{⊤}
use Rattle.std.proofs.Common.{◌≡◌, ◌⊎◌, inl, inr, ◌≤◌, ◌<◌, ◌-◌, ◌+◌, ◌*◌, ◌/◌, ◌%◌, ◌++◌, ℕ, Bool, true, false, eqb, List, [], ◌∷◌, length, take, drop, refl, sym, ◌∙◌, ap, subst, arith}
use Rattle.pfr_net.specs.declared.address.Ipv4Address.{Ipv4Address}
use Rattle.pfr_net.specs.declared.endpoint.Endpoint.{Endpoint}
use Rattle.pfr_net.specs.declared.port.Port.{Port}
use Rattle.pfr_headers.specs.declared.change.End.{End}
use Rattle.pfr_headers.specs.declared.change.End.TheVariants.{Source, Destination}
use Rattle.pfr_headers.specs.declared.icmp.Inner.{Inner}
use Rattle.pfr_headers.specs.declared.packet.Packet.{Packet}
use Rattle.pfr_headers.specs.Checksum.{AreBytes, Verifies, Word, difference, difference_of, mended, mended_udp, with_word, with_words, word, word_at}
use Rattle.pfr_headers.specs.Laws.{message_sum, sum_of}
use Rattle.pfr_headers.specs.Rewriting.{address_place, address_words, echo_words, end_address, error_words, header_words, inner_words, other_end, outer_words, port_place, embedded_words, udp_words}
use Rattle.pfr_headers.proofs.ChecksumLemmas.{mends, udp_within}
use Rattle.pfr_headers.proofs.FieldLemmas.{Known}
use Rattle.pfr_headers.proofs.RewritingLemmas.{header_span, inner_span, port_most, embedded_span}
use Rattle.pfr_headers.proofs.SumLemmas.{Covers, Moves, covers, mending, moves_none, moves_then, moves_word, part_sum}
use Rattle.pfr_headers.proofs.VerifyingLemmas.{all_within, word_small}
use Rattle.pfr_headers.proofs.WordLemmas.{Spans, behind, kept, length_with, length_with_all, outside, with_append}
use Rattle.pfr_headers.proofs.SegmentLemmas.{SameFrom, echo_verifies}

-- ---- messages

-- what stands behind words that were written
drop_same : (ws : List Word) (d : List ℕ) (low high from : ℕ) → Spans low high ws → high ≤ from → high ≤ length d → drop from (with_words ws d) ≡ drop from d
drop_same [] d low high from s over within = refl
drop_same (w ∷ ws) d low high from s over within =
    let end = s.1 in
    let size = length_with w d (omega arith) in
    drop_same ws (with_word w d) low high from s.2 over (omega (arith, size)) ∙ behind w d from (omega arith) (omega arith)

pub message_same : (ws : List Word) (d : List ℕ) (p : Packet) (low high : ℕ) → Spans low high ws → high ≤ p.header_length → high ≤ length d → message_sum (with_words ws d) p ≡ message_sum d p
message_same ws d p low high s over within = ap (λ (t : List ℕ). sum_of (take (p.total_length - p.header_length) t)) (drop_same ws d low high p.header_length s over within)

pub echo_datagram : (d : List ℕ) (p : Packet) (port : Port) (now : List ℕ) → AreBytes d → length now ≡ length d → message_sum now p ≡ message_sum d p → SameFrom p.header_length d now → p.header_length + 8 ≤ length d → 8 ≤ p.total_length - p.header_length → port.0 < 65536 → Verifies (message_sum d p)
    → 0 < message_sum (with_words (echo_words d p.header_length port) now) p → Verifies (message_sum (with_words (echo_words d p.header_length port) now) p)
echo_datagram d p port now are size same kept room enough small before some =
    let from = p.header_length in
    let n = p.total_length - p.header_length in
    echo_verifies (part_sum from n) d now from port size (record { rounds = 0; is = omega (arith, same) }) kept are small room
    (covers from n 2 (length d) (from + 4) (omega arith) (omega arith) (omega arith)) (covers from n 1 (length d) (from + 2) (omega arith) (omega arith) (omega arith)) before some

-- ---- an error: all words of the packet that it embeds are summed

record Ready (sum : List ℕ → ℕ) (size : ℕ) (d : List ℕ) (w : Word) : Type 0 where
  covers : Covers sum size w.place
  within : w.place + 2 ≤ size
  value : w.value < 65536
  old : word_at d w.place ≤ 65535

abbrev AllReady : (List ℕ → ℕ) → ℕ → List ℕ → List Word → Type 0
AllReady sum size d [] = ⊤
AllReady sum size d (w ∷ ws) = Ready sum size d w × AllReady sum size d ws

abbrev BesideAll : Word → List Word → Type 0
BesideAll w [] = ⊤
BesideAll w (v ∷ vs) = ((w.place + 2 ≤ v.place) ⊎ (v.place + 2 ≤ w.place)) × BesideAll w vs

abbrev Apart : List Word → Type 0
Apart [] = ⊤
Apart (w ∷ ws) = BesideAll w ws × Apart ws

ready_after : (sum : List ℕ → ℕ) (size : ℕ) (w : Word) (ws : List Word) (d : List ℕ) → length d ≡ size → w.place + 2 ≤ size → BesideAll w ws → AllReady sum size d ws → AllReady sum size (with_word w d) ws
ready_after sum size w [] d is within beside ready = record {}
ready_after sum size w (v ∷ vs) d is within beside ready =
    let first = ready.0 in
    let same = kept w d v.place (record { within = omega (arith, is); beside = beside.0 }) in
    let old = first.old in (
      record { covers = first.covers; within = first.within; value = first.value; old = omega (arith, same, old) },
      ready_after sum size w vs d is within beside.1 ready.1,
    )

brought_same : (size : ℕ) (w : Word) (ws : List Word) (d : List ℕ) → length d ≡ size → w.place + 2 ≤ size → BesideAll w ws → difference_of (with_word w d) ws ≡ difference_of d ws
brought_same size w [] d is within beside = refl
brought_same size w (v ∷ vs) d is within beside =
    rw (kept w d v.place (record { within = omega (arith, is); beside = beside.0 }), brought_same size w vs d is within beside.1) refl

moves_all : (sum : List ℕ → ℕ) (size : ℕ) (ws : List Word) (d : List ℕ) → length d ≡ size → AllReady sum size d ws → Apart ws → Moves sum d (with_words ws d) (difference_of d ws)
moves_all sum size [] d is ready apart = moves_none sum d
moves_all sum size (w ∷ ws) d is ready apart =
    let r = ready.0 in
    let within = r.within in
    let size_now = length_with w d (omega (arith, is)) in
    let first = moves_word sum size w.place w.value d r.covers is r.old r.value in
    let rest = moves_all sum size ws (with_word w d) (size_now ∙ is) (ready_after sum size w ws d is within apart.0 ready.1) apart.1 in
    moves_then sum d (with_word w d) (with_words ws (with_word w d)) (difference (word_at d w.place) w.value) (difference_of d ws) first
    (subst (λ (n : ℕ). Moves sum (with_word w d) (with_words ws (with_word w d)) n) (brought_same size w ws d is within apart.0) rest)

ready_append : (sum : List ℕ → ℕ) (size : ℕ) (d : List ℕ) (xs ys : List Word) → AllReady sum size d xs → AllReady sum size d ys → AllReady sum size d (xs ++ ys)
ready_append sum size d [] ys a b = b
ready_append sum size d (x ∷ xs) ys a b = (a.0, ready_append sum size d xs ys a.1 b)

beside_append : (w : Word) (xs ys : List Word) → BesideAll w xs → BesideAll w ys → BesideAll w (xs ++ ys)
beside_append w [] ys a b = b
beside_append w (x ∷ xs) ys a b = (a.0, beside_append w xs ys a.1 b)

beside_span : (w : Word) (ws : List Word) (low high : ℕ) → w.place + 2 ≤ low → Spans low high ws → BesideAll w ws
beside_span w [] low high before s = record {}
beside_span w (v ∷ vs) low high before s = let least = s.0 in (inl (omega arith), beside_span w vs low high before s.2)

apart_append : (xs ys : List Word) (low high low' high' : ℕ) → Spans low high xs → Spans low' high' ys → high ≤ low' → Apart xs → Apart ys → Apart (xs ++ ys)
apart_append [] ys low high low' high' s t over a b = b
apart_append (x ∷ xs) ys low high low' high' s t over a b =
    let most = s.1 in
    (beside_append x xs ys a.0 (beside_span x ys low' high' (omega arith) t), apart_append xs ys low high low' high' s.2 t over a.1 b)

header_apart : (d : List ℕ) (at : ℕ) (end : End) (address : Ipv4Address) → Apart (header_words d at end address)
unfolding header_words
header_apart d at Source address = ((inl (omega arith), (inr (omega arith), record {})), ((inr (omega arith), record {}), (record {}, record {})))
header_apart d at Destination address = ((inl (omega arith), (inr (omega arith), record {})), ((inr (omega arith), record {}), (record {}, record {})))

udp_apart : (d : List ℕ) (at : ℕ) (end : End) (s : ℕ) (port : Port) → Apart (udp_words d at end s port)
unfolding udp_words
udp_apart d at end s port = let most = port_most end in ((inl (omega arith), record {}), (record {}, record {}))

embedded_apart : (d : List ℕ) (protocol at : ℕ) (end : End) (s : ℕ) (port : Port) → Known protocol → Apart (embedded_words d protocol at end s port)
unfolding embedded_words echo_words
embedded_apart d protocol at end s port (inl is) = subst (λ (n : ℕ). Apart (embedded_words d n at end s port)) (sym is) (record {}, record {})
embedded_apart d protocol at end s port (inr (inl is)) = subst (λ (n : ℕ). Apart (embedded_words d n at end s port)) (sym is) (udp_apart d at end s port)
embedded_apart d protocol at end s port (inr (inr is)) = subst (λ (n : ℕ). Apart (embedded_words d n at end s port)) (sym is) ((inr (omega arith), record {}), (record {}, record {}))

-- a word at an even distance from where a message begins
ready_at : (from n k size : ℕ) (d : List ℕ) (place value : ℕ) → AreBytes d → place ≡ from + 2 * k → 2 * k + 2 ≤ n → place + 2 ≤ size → value < 65536 → Ready (part_sum from n) size d (word place value)
ready_at from n k size d place value are at within there small = record { covers = covers from n k size place at within there; within = there; value = small; old = word_small place d are }

header_ready : (from n size : ℕ) (d : List ℕ) (end : End) (address : Ipv4Address) → AreBytes d → 28 ≤ n → from + 8 + 20 ≤ size → address.0 < 4294967296 → AllReady (part_sum from n) size d (header_words d (from + 8) end address)
unfolding header_words
header_ready from n size d Source address are enough room small =
    let checksum = mended (word_at d (from + 8 + 10)) (difference_of d (address_words (from + 8 + 12) address)) in
    let within = (mends (word_at d (from + 8 + 10)) (difference_of d (address_words (from + 8 + 12) address))).within in (
      ready_at from n 10 size d (from + 8 + 12) (address.0 / 65536) are (omega arith) (omega arith) (omega arith) (omega arith),
      (
        ready_at from n 11 size d (from + 8 + 12 + 2) (address.0 % 65536) are (omega arith) (omega arith) (omega arith) (omega arith),
        (ready_at from n 9 size d (from + 8 + 10) checksum are (omega arith) (omega arith) (omega arith) (omega arith), record {}),
      ),
    )
header_ready from n size d Destination address are enough room small =
    let checksum = mended (word_at d (from + 8 + 10)) (difference_of d (address_words (from + 8 + 16) address)) in
    let within = (mends (word_at d (from + 8 + 10)) (difference_of d (address_words (from + 8 + 16) address))).within in (
      ready_at from n 12 size d (from + 8 + 16) (address.0 / 65536) are (omega arith) (omega arith) (omega arith) (omega arith),
      (
        ready_at from n 13 size d (from + 8 + 16 + 2) (address.0 % 65536) are (omega arith) (omega arith) (omega arith) (omega arith),
        (ready_at from n 9 size d (from + 8 + 10) checksum are (omega arith) (omega arith) (omega arith) (omega arith), record {}),
      ),
    )

port_ready : (from n half at size : ℕ) (d : List ℕ) (end : End) (port : Port) → AreBytes d → at ≡ from + 2 * half → 2 * half + 8 ≤ n → at + 8 ≤ size → port.0 < 65536 → Ready (part_sum from n) size d (word (at + port_place end) port.0)
port_ready from n half at size d Source port are even enough room small = ready_at from n half size d (at + 0) port.0 are (omega (arith, even)) (omega arith) (omega arith) small
port_ready from n half at size d Destination port are even enough room small = ready_at from n (half + 1) size d (at + 2) port.0 are (omega (arith, even)) (omega arith) (omega arith) small

embedded_ready : (from n half at size : ℕ) (d : List ℕ) (protocol : ℕ) (end : End) (s : ℕ) (port : Port) → Known protocol → AreBytes d → at ≡ from + 2 * half → 2 * half + 8 ≤ n → at + 8 ≤ size → port.0 < 65536 → AllReady (part_sum from n) size d (embedded_words d protocol at end s port)
unfolding embedded_words udp_words echo_words
embedded_ready from n half at size d protocol end s port (inl is) are even enough room small =
    subst (λ (m : ℕ). AllReady (part_sum from n) size d (embedded_words d m at end s port)) (sym is) (port_ready from n half at size d end port are even enough room small, record {})
embedded_ready from n half at size d protocol end s port (inr (inl is)) are even enough room small =
    let checksum = mended_udp (word_at d (at + 6)) (s + difference (word_at d (at + port_place end)) port.0) in
    let within = udp_within (word_at d (at + 6)) (s + difference (word_at d (at + port_place end)) port.0) in
    subst (λ (m : ℕ). AllReady (part_sum from n) size d (embedded_words d m at end s port)) (sym is) (
      port_ready from n half at size d end port are even enough room small,
      (ready_at from n (half + 3) size d (at + 6) checksum are (omega (arith, even)) (omega arith) (omega arith) (omega arith), record {}),
    )
embedded_ready from n half at size d protocol end s port (inr (inr is)) are even enough room small =
    let checksum = mended (word_at d (at + 2)) (difference (word_at d (at + 4)) port.0) in
    let within = (mends (word_at d (at + 2)) (difference (word_at d (at + 4)) port.0)).within in
    subst (λ (m : ℕ). AllReady (part_sum from n) size d (embedded_words d m at end s port)) (sym is) (
      ready_at from n (half + 2) size d (at + 4) port.0 are (omega (arith, even)) (omega arith) (omega arith) small,
      (ready_at from n (half + 1) size d (at + 2) checksum are (omega (arith, even)) (omega arith) (omega arith) (omega arith), record {}),
    )

inner_moves : (d : List ℕ) (from n half : ℕ) (inner : Inner) (end : End) (to : Endpoint) → AreBytes d → Known inner.protocol.0 → inner.header_length ≡ 2 * half → 20 ≤ inner.header_length → 8 + inner.header_length + 8 ≤ n → from + 8 + inner.header_length + 8 ≤ length d → to.address.0 < 4294967296 → to.port.0 < 65536
    → Moves (part_sum from n) d (with_words (inner_words d (from + 8) inner end to) d) (difference_of d (inner_words d (from + 8) inner end to))
unfolding inner_words
inner_moves d from n half inner end to are known even long enough room address port =
    let at = from + 8 + inner.header_length in
    let addresses = difference_of d (address_words (from + 8 + address_place end) to.address) in
    let header = header_words d (from + 8) end to.address in
    let embedded = embedded_words d inner.protocol.0 at end addresses to.port in
    moves_all (part_sum from n) (length d) (header ++ embedded) d refl
    (ready_append (part_sum from n) (length d) d header embedded
    (header_ready from n (length d) d end to.address are (omega arith) (omega arith) address)
    (embedded_ready from n (4 + half) at (length d) d inner.protocol.0 end addresses to.port known are (omega (arith, even)) (omega (arith, even)) (omega arith) port))
    (apart_append header embedded (from + 8 + 10) (from + 8 + 20) at (at + 8) (header_span d (from + 8) end to.address) (embedded_span d inner.protocol.0 at end addresses to.port) (omega arith) (header_apart d (from + 8) end to.address) (embedded_apart d inner.protocol.0 at end addresses to.port known))

outer_span : (d : List ℕ) (p : Packet) (inner : Inner) (end : End) (to : Endpoint) (same : Bool) → eqb (end_address end p.source p.destination).0 (end_address (other_end end) inner.source inner.destination).0 ≡ same → Spans 10 20 (outer_words d p inner end to)
unfolding outer_words
outer_span d p inner end to true e = rw e (header_span d 0 end to.address)
outer_span d p inner end to false e = rw e (record {})

pub error_datagram : (d : List ℕ) (p : Packet) (inner : Inner) (half : ℕ) (end : End) (to : Endpoint) → AreBytes d → Known inner.protocol.0 → inner.header_length ≡ 2 * half → 20 ≤ p.header_length → 20 ≤ inner.header_length → p.header_length + 8 + inner.header_length + 8 ≤ p.total_length → p.header_length + 8 + inner.header_length + 8 ≤ length d → to.address.0 < 4294967296 → to.port.0 < 65536
    → Verifies (message_sum d p) → 0 < message_sum (with_words (error_words d p inner end to) d) p → Verifies (message_sum (with_words (error_words d p inner end to) d) p)
unfolding error_words
error_datagram d p inner half end to are known even long long_inner enough room address port before some =
    let from = p.header_length in
    let n = p.total_length - p.header_length in
    let embedded = inner_words d (from + 8) inner (other_end end) to in
    let brought = difference_of d embedded in
    let now = with_words embedded d in
    let checksum = word (from + 2) (mended (word_at d (from + 2)) brought) in
    let then = with_word checksum now in
    let outer = outer_words d p inner end to in
    let span = inner_span d (from + 8) inner (other_end end) to long_inner in
    let size : length now ≡ length d = length_with_all embedded d (all_within embedded (from + 8 + 10) (from + 8 + inner.header_length + 8) (length d) span room) in
    let size_then = length_with checksum now (omega (arith, size)) in
    let moved = inner_moves d from n half inner (other_end end) to are known even long_inner (omega arith) room address port in
    let same = outside embedded d (from + 8 + 10) (from + 8 + inner.header_length + 8) (from + 2) span room (inr (omega arith)) in
    let last = message_same outer then p 10 20 (outer_span d p inner end to _ refl) long (omega (arith, size, size_then)) in
    let joined : with_words (embedded ++ (checksum ∷ outer)) d ≡ with_words outer then = with_append embedded (checksum ∷ outer) d in
    let some_then : 0 < message_sum then p = subst (λ (m : ℕ). 0 < m) (ap (λ (t : List ℕ). message_sum t p) joined ∙ last) some in
    let v = mending (part_sum from n) (length d) (from + 2) brought d now (covers from n 1 (length d) (from + 2) (omega arith) (omega arith) (omega arith)) refl size moved same (word_small (from + 2) d are) before some_then in
    subst Verifies (sym (ap (λ (t : List ℕ). message_sum t p) joined ∙ last)) v
