-- The parts of a message's bytes.
use Rattle.std.proofs.Common.{◌≡◌, ℕ, ◌+◌, ◌-◌, ◌*◌, ◌≤◌, true, false, eqb, ltb, List, [], ◌∷◌, length, get_or, take, drop, Result, refl, sym, ap, ◌∙◌, arith}
use Rattle.std.specs.Int.{from_be_bytes, w16}
use Rattle.std.proofs.lemmas.Bool.{eq-eqb, le-ltb}
use Rattle.std.proofs.lemmas.List.{drop-take, get_or-drop, get_or-take}
use Rattle.pfr_messages.specs.declared.fault.Fault.{Fault}
use Rattle.pfr_messages.specs.declared.fault.Fault.TheVariants as faults
use Rattle.pfr_messages.specs.declared.fault.ReadError.{ReadError}
use Rattle.pfr_messages.specs.declared.fault.ReadError.TheVariants as errors
use Rattle.pfr_messages.specs.Messages.{Content, IsFault, IsRefused, answer, is_empty, message_at, refusal_of, sections_at}

len_is : (bytes : List ℕ) → from_be_bytes w16 (take 2 (drop 2 bytes)) ≡ get_or bytes 2 0 * 256 + get_or bytes 3 0
len_is bytes =
    let two : List ℕ = take 2 (drop 2 bytes) in
    let high : get_or two 0 0 ≡ get_or bytes 2 0 = get_or-take 2 (drop 2 bytes) 0 0 (omega arith) ∙ get_or-drop 2 bytes 0 0 in
    let low : get_or two 1 0 ≡ get_or bytes 3 0 = get_or-take 2 (drop 2 bytes) 1 0 (omega arith) ∙ get_or-drop 2 bytes 1 0 in
    omega (arith, high, low)

-- the bytes of the sections, of a message whose first bytes are a message's
pub message_is : (bytes : List ℕ) (len : ℕ) → 20 ≤ length bytes → get_or bytes 0 0 ≡ 5 → get_or bytes 1 0 ≡ 0
    → get_or bytes 2 0 * 256 + get_or bytes 3 0 ≡ len → 40 ≤ len → len ≤ 1480 → len ≤ length bytes
    → message_at bytes ≡ answer len (sections_at (take 16 (drop 4 bytes)) (take (len - 20) (drop 20 bytes)))
unfolding message_at
message_is bytes len header version pad spelled low high enough =
    let t1 : ltb (length bytes) 20 ≡ false = le-ltb (length bytes) 20 header in
    let t2 : eqb (get_or bytes 0 0) 5 ≡ true = eq-eqb (get_or bytes 0 0) 5 version in
    let t3 : eqb (get_or bytes 1 0) 0 ≡ true = eq-eqb (get_or bytes 1 0) 0 pad in
    let is = len_is bytes ∙ spelled in
    let t4 : ltb len 40 ≡ false = le-ltb len 40 low in
    let t5 : ltb 1480 len ≡ false = le-ltb 1480 len high in
    let t6 : ltb (length bytes) len ≡ false = le-ltb (length bytes) len enough in
    let split : 20 + (len - 20) ≡ len = omega arith in
    let cut : drop 20 (take len bytes) ≡ take (len - 20) (drop 20 bytes) =
    ap (λ (n : ℕ). drop 20 (take n bytes)) (sym split) ∙ drop-take 20 (len - 20) bytes in
    rw (t1, t2, t3, is, t4, t5, t6, cut) refl

pub is_refused : (len : ℕ) (e : ReadError) (read : Result Content Fault) → IsFault e read
    → IsRefused (refusal_of len e) (answer len read)
is_refused len errors.Memory read h = tt
is_refused len (errors.Fault (faults.Action action)) read h = ap (answer len) h
is_refused len (errors.Fault faults.Count) read h = ap (answer len) h
is_refused len (errors.Fault faults.NoEnd) read h = ap (answer len) h
is_refused len (errors.Fault faults.Trailing) read h = ap (answer len) h
is_refused len (errors.Fault (faults.Differs left)) read h = ap (answer len) h

pub not_empty : (bytes : List ℕ) → eqb (length bytes) 0 ≡ false → is_empty bytes ≡ false
not_empty [] e = absurd cc
not_empty (b ∷ bytes) e = refl
