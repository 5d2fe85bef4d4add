-- What is read of bytes that stay, and of a frame whose bytes before its datagram stay.
use Rattle.std.proofs.Common.{◌≡◌, inl, inr, ◌≤◌, ◌<◌, ◌+◌, ◌&&◌, ℕ, zero, suc, Bool, not, eqb, ltb, List, length, drop, take, slice_index, Option, Some, None, refl, sym, ◌∙◌, ap, subst, cond, arith}
use Rattle.std.proofs.Math.Seq.{drop-cons}
use Rattle.std.proofs.lemmas.List.{get_or-drop}
use Rattle.byteorder.specs.Endian.{big_from, big_number}
use Rattle.pfr_headers.specs.View.{HoldsIpv4, sender_of}

-- the bytes from one place to another are the same
abbrev pub Agree : ℕ → ℕ → List ℕ → List ℕ → Type 0
Agree low high now old = (byte : ℕ) → low ≤ byte → byte < high → slice_index now byte ≡ slice_index old byte

-- so a number among them is the same
number_from : (n from place low high : ℕ) (now old : List ℕ) → Agree low high now old → low ≤ place + from → place + from + n ≤ high → big_from from n (drop place now) ≡ big_from from n (drop place old)
number_from zero from place low high now old same least most = refl
number_from (suc n) from place low high now old same least most =
    let byte = get_or-drop place now from 0 ∙ same (place + from) least (omega arith) ∙ sym (get_or-drop place old from 0) in
    let rest = number_from n (suc from) place low high now old same (omega arith) (omega arith) in
    rw (byte, rest) refl

pub number_same : (n place low high : ℕ) (now old : List ℕ) → Agree low high now old → low ≤ place → place + n ≤ high → big_number n (drop place now) ≡ big_number n (drop place old)
number_same n place low high now old same least most = number_from n 0 place low high now old same (omega arith) (omega arith)

-- and so are bytes among them
bytes_same : (n place low high : ℕ) (now old : List ℕ) → Agree low high now old → low ≤ place → place + n ≤ high → place + n ≤ length now → place + n ≤ length old → take n (drop place now) ≡ take n (drop place old)
bytes_same zero place low high now old same least most in_now in_old = refl
bytes_same (suc n) place low high now old same least most in_now in_old =
    let byte = same place least (omega arith) in
    let rest = bytes_same n (suc place) low high now old same (omega arith) (omega arith) (omega arith) (omega arith) in
    rw (drop-cons now place 0 (omega arith), drop-cons old place 0 (omega arith), byte, rest) refl

-- the same behind a place
pub agree_behind : (from low high : ℕ) (now old : List ℕ) → Agree (from + low) (from + high) now old → Agree low high (drop from now) (drop from old)
agree_behind from low high now old same =
    λ byte least most. get_or-drop from now byte 0 ∙ same (from + byte) (omega arith) (omega arith) ∙ sym (get_or-drop from old byte 0)

-- ---- a frame

-- a frame whose bytes before its datagram stay, and the datagram's first one, holds it at the same place
pub holds_same : (link : ℕ) (now bytes : List ℕ) (place : ℕ) → length now ≡ length bytes → Agree 0 place now bytes → slice_index now place ≡ slice_index bytes place → HoldsIpv4 link bytes place → HoldsIpv4 link now place
holds_same link now bytes place size front first (inl r) =
    let zeroth = subst (λ (n : ℕ). slice_index now n ≡ slice_index bytes n) r.place_is first in
    inl (record { link_is = r.link_is; some = rw size r.some; version = rw zeroth r.version; place_is = r.place_is })
holds_same link now bytes place size front first (inr (inl l)) =
    let at = l.place_is in
    inr (inl (record {
      link_is = l.link_is;
      whole = rw size l.whole;
      family = rw (front 0 (omega arith) (omega arith), front 1 (omega arith) (omega arith), front 2 (omega arith) (omega arith), front 3 (omega arith) (omega arith)) l.family;
      place_is = at;
    }))
holds_same link now bytes place size front first (inr (inr (inl e))) =
    let at = e.place_is in
    inr (inr (inl (record {
      link_is = e.link_is;
      whole = rw size e.whole;
      kind = number_same 2 12 0 place now bytes front (omega arith) (omega arith) ∙ e.kind;
      place_is = at;
    })))
holds_same link now bytes place size front first (inr (inr (inr t))) =
    let at = t.place_is in
    inr (inr (inr (record {
      link_is = t.link_is;
      whole = rw size t.whole;
      tag = number_same 2 12 0 place now bytes front (omega arith) (omega arith) ∙ t.tag;
      kind = number_same 2 16 0 place now bytes front (omega arith) (omega arith) ∙ t.kind;
      place_is = at;
    })))

-- and it has the same sender
pub sender_same : (link : ℕ) (now bytes : List ℕ) (place : ℕ) → length now ≡ length bytes → Agree 0 place now bytes → HoldsIpv4 link bytes place → sender_of link now ≡ sender_of link bytes
unfolding sender_of
sender_same link now bytes place size front (inl r) = rw r.link_is refl
sender_same link now bytes place size front (inr (inl l)) = rw l.link_is refl
sender_same link now bytes place size front (inr (inr (inl e))) =
    let at = e.place_is in
    let whole = e.whole in
    rw (size, bytes_same 6 6 0 place now bytes front (omega arith) (omega arith) (omega arith) (omega arith)) refl
sender_same link now bytes place size front (inr (inr (inr t))) =
    let at = t.place_is in
    let whole = t.whole in
    rw (size, bytes_same 6 6 0 place now bytes front (omega arith) (omega arith) (omega arith) (omega arith)) refl
