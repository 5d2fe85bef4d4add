-- Where a capture ends, and what a reader has given.
use Rattle.std.proofs.Common.{◌≡◌, ℕ, ◌+◌, ◌^◌, ◌<◌, ◌≤◌, List, [], ◌++◌, length, drop, refl, sym, ◌∙◌, arith}
use Rattle.std.proofs.lemmas.List.{append_assoc, append-nil, drop-append-le, length-append, length-drop, get_or_append_left}
use Rattle.pfr_capture.specs.declared.order.ByteOrder.{ByteOrder}
use Rattle.pfr_capture.specs.declared.order.ByteOrder.TheVariants.{Big, Little}
use Rattle.pfr_capture.specs.declared.capture.Tail.TheVariants.{Cut}
use Rattle.pfr_capture.specs.declared.capture.CaptureError.{CaptureError}
use Rattle.pfr_capture.specs.declared.capture.CaptureError.TheVariants.{HeaderCut, BadMagic, BadVersion, LinkType, RecordTooLong, Read, Memory}
use Rattle.pfr_capture.specs.Ahead.{CameBehind, Extends}
use Rattle.pfr_capture.specs.Header.{number}
use Rattle.pfr_capture.specs.Records.{IsCut, IsTooLong, captured_of}
use Rattle.pfr_capture.specs.Stepping.{HasHeader, StepLacks}

-- a number reads the first four bytes alone
pub number-append : (order : ByteOrder) (xs ys : List ℕ) → 4 ≤ length xs → number order (xs ++ ys) ≡ number order xs
number-append Big xs ys long =
    let b0 = get_or_append_left xs ys 0 0 (omega arith) in
    let b1 = get_or_append_left xs ys 0 1 (omega arith) in
    let b2 = get_or_append_left xs ys 0 2 (omega arith) in
    let b3 = get_or_append_left xs ys 0 3 (omega arith) in
    rw (b0, b1, b2, b3) refl
number-append Little xs ys long =
    let b0 = get_or_append_left xs ys 0 0 (omega arith) in
    let b1 = get_or_append_left xs ys 0 1 (omega arith) in
    let b2 = get_or_append_left xs ys 0 2 (omega arith) in
    let b3 = get_or_append_left xs ys 0 3 (omega arith) in
    rw (b0, b1, b2, b3) refl

pub captured_of-append : (order : ByteOrder) (xs ys : List ℕ) → 16 ≤ length xs → captured_of order (xs ++ ys) ≡ captured_of order xs
captured_of-append order xs ys long =
    let room : 4 ≤ length (drop 8 xs) = omega (arith, length-drop 8 xs) in
    rw (drop-append-le 8 xs ys (omega arith)) (number-append order (drop 8 xs) ys room)

-- what was there, and what the source had, are what is there and what it has left
pub before_is : (old new before left : List ℕ) → CameBehind old new before left → old ++ before ≡ new ++ left
before_is old new before left c = rw (c.gave, c.behind) (sym (append_assoc old c.came left))

-- and nothing else if the source has nothing left
pub before_is_new : (old new before left : List ℕ) → CameBehind old new before left → left ≡ [] → old ++ before ≡ new
before_is_new old new before left c none = before_is old new before left c ∙ (rw none (append-nil new))

-- two reads, one after the other
pub came_twice : (a b c before mid left : List ℕ) → CameBehind a b before mid → CameBehind b c mid left → CameBehind a c before left
came_twice a b c before mid left first second = record {
  came = first.came ++ second.came;
  gave = first.gave ∙ (rw second.gave (sym (append_assoc first.came second.came left)));
  behind = second.behind ∙ (rw first.behind (append_assoc a first.came second.came));
}

pub extends_twice : (a b c : List ℕ) → Extends a b → Extends b c → Extends a c
extends_twice a b c first second = record {
  more = first.more ++ second.more;
  is = second.is ∙ (rw first.is (append_assoc a first.more second.more));
}

-- a header that asks for too much, whatever the source still has
pub too_long_from : (order : ByteOrder) (count : ℕ) (old new before left : List ℕ) (asked : ℕ) → CameBehind old new before left → count < 2 ^ 40 → 16 ≤ length new → asked ≡ captured_of order new → 262144 < asked → IsTooLong order count (old ++ before) asked
too_long_from order count old new before left asked c may header asks above =
    rw (before_is old new before left c) (record {
      may_follow = may;
      header = omega (arith, length-append new left);
      asks = captured_of-append order new left header ∙ sym asks;
      above = above;
    })

-- a header and fewer bytes than it asks for hold no record
ends_part : (order : ByteOrder) (count : ℕ) (old new : List ℕ) (captured : ℕ) → HasHeader order count old captured → Extends old new → length new < 16 + captured → IsCut order count new
ends_part order count old new captured h x short =
    let header = h.header in
    let long : 16 ≤ length new = rw x.is (omega (arith, length-append old x.more)) in
    let asks : captured_of order new ≡ captured = rw x.is (captured_of-append order old x.more header) ∙ h.asks in
    record {
      some = omega arith;
      allowed = λ may header. rw asks h.within;
      part = λ may header. rw asks short;
    }

-- if a record's bytes were requested and reading failed
pub lacks_record : (order : ByteOrder) (count : ℕ) (old new : List ℕ) (captured : ℕ) (e : CaptureError) → HasHeader order count old captured → Extends old new → length new < 16 + captured → StepLacks order count new e
lacks_record order count old new captured Read h x short = (Cut, ends_part order count old new captured h x short)
lacks_record order count old new captured HeaderCut h x short = tt
lacks_record order count old new captured BadMagic h x short = tt
lacks_record order count old new captured BadVersion h x short = tt
lacks_record order count old new captured (LinkType link) h x short = tt
lacks_record order count old new captured (RecordTooLong asked) h x short = tt
lacks_record order count old new captured Memory h x short = tt
