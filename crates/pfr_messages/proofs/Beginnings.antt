-- What the front of bytes says of a message stands in all bytes that begin so.
use Rattle.std.proofs.Common.{◌≡◌, ◌≢◌, ℕ, ◌+◌, ◌<◌, ◌≤◌, Bool, true, false, not, ◌||◌, cond, eqb, ltb, List, ◌++◌, length, get_or, take, drop, Result, Ok, Err, refl, ap, ◌∙◌, arith}
use Rattle.std.specs.Int.{from_be_bytes, w16}
use Rattle.std.proofs.lemmas.Bool.{le-ltb, ltb-false, ltb-true, or_parts}
use Rattle.std.proofs.lemmas.List.{drop-append-le, get_or_append_left, length-append, length-drop, take-append-le}
use Rattle.pfr_messages.specs.declared.error.SyncError.{SyncError}
use Rattle.pfr_messages.specs.declared.error.SyncError.TheVariants as refusals
use Rattle.pfr_messages.specs.declared.fault.Fault.{Fault}
use Rattle.pfr_messages.specs.declared.fault.Fault.TheVariants as faults
use Rattle.pfr_messages.specs.Messages.{Content, answer, message_at, sections_at}

-- ---- tests that refuse, one after the other

-- it is refused since bytes lack
abbrev pub is_short : {A : Type 0} → Result A SyncError → Bool
is_short (Ok x) = false
is_short (Err refusals.Short) = true
is_short (Err refusal) = false

-- a test that is the same in both
pub step : {A : Type 0} (e : SyncError) (t t' : Bool) (r r' : Result A SyncError) → t' ≡ t → (t ≡ false → is_short r ≡ false → r' ≡ r)
    → is_short (cond t (Err e) r) ≡ false → cond t' (Err e) r' ≡ cond t (Err e) r
step e true t' r r' same then whole = rw same refl
step e false t' r r' same then whole = rw same (then refl whole)

-- a test for bytes that lack, which passes with more of them
pub enough : {A : Type 0} (t t' : Bool) (r r' : Result A SyncError) → (t ≡ false → t' ≡ false) → (t ≡ false → is_short r ≡ false → r' ≡ r)
    → is_short (cond t (Err refusals.Short) r) ≡ false → cond t' (Err refusals.Short) r' ≡ cond t (Err refusals.Short) r
enough true t' r r' more then whole = absurd (cc)
enough false t' r r' more then whole = rw (more refl) (then refl whole)

-- what was found behind a test
pub passed : {A : Type 0} (e : SyncError) (t : Bool) (r : Result A SyncError) (x : A) → cond t (Err e) r ≡ Ok x → {G : Type 0} → (t ≡ false → r ≡ Ok x → G) → G
passed e true r x is then = absurd (cc)
passed e false r x is then = then refl is

-- what lacks does so at a test of length, or behind it
pub lacks : {A : Type 0} (t : Bool) (r : Result A SyncError) → cond t (Err refusals.Short) r ≡ Err refusals.Short → {G : Type 0} → (t ≡ true → G) → (t ≡ false → r ≡ Err refusals.Short → G) → G
lacks true r is here then = here refl
lacks false r is here then = then refl is

-- and not at another one
pub goes_on : {A : Type 0} (e : SyncError) (t : Bool) (r : Result A SyncError) → e ≢ refusals.Short → cond t (Err e) r ≡ Err refusals.Short → {G : Type 0} → (t ≡ false → r ≡ Err refusals.Short → G) → G
goes_on e true r other is then = absurd (other cc)
goes_on e false r other is then = then refl is

-- ---- messages

-- a length test passes with more bytes
pub passes : (n : ℕ) (a b : List ℕ) → ltb (length a) n ≡ false → ltb (length (a ++ b)) n ≡ false
passes n a b t = le-ltb _ _ (omega (arith, ltb-false _ _ t, length-append a b))

field : (place count : ℕ) (a b : List ℕ) → place + count ≤ length a → take count (drop place (a ++ b)) ≡ take count (drop place a)
field place count a b within =
    ap (take count) (drop-append-le place a b (omega arith)) ∙ take-append-le count (drop place a) b (omega (arith, length-drop place a))

-- a message that is refused, or is there, at the front of bytes is so with more behind it
pub message_stays : (a b : List ℕ) → is_short (message_at a) ≡ false → message_at (a ++ b) ≡ message_at a
unfolding message_at
message_stays a b whole =
    let len : ℕ = from_be_bytes w16 (take 2 (drop 2 a)) in
    enough (ltb (length a) 20) (ltb (length (a ++ b)) 20) _ _ (passes 20 a b) (λ t1 w1.
    let long : 20 ≤ length a = ltb-false _ _ t1 in
    let spelled : from_be_bytes w16 (take 2 (drop 2 (a ++ b))) ≡ len = ap (from_be_bytes w16) (field 2 2 a b (omega arith)) in
    step refusals.Version (not (eqb (get_or a 0 0) 5)) _ _ _ (ap (λ n. not (eqb n 5)) (get_or_append_left a b 0 0 (omega arith))) (λ t2 w2.
    step (refusals.Fixed 1) (not (eqb (get_or a 1 0) 0)) _ _ _ (ap (λ n. not (eqb n 0)) (get_or_append_left a b 0 1 (omega arith))) (λ t3 w3.
    step refusals.Length (ltb len 40 || ltb 1480 len) _ _ _ (ap (λ n. ltb n 40 || ltb 1480 n) spelled) (λ t4 w4.
    enough (ltb (length a) len) (ltb (length (a ++ b)) (from_be_bytes w16 (take 2 (drop 2 (a ++ b))))) _ _ (λ t5. rw spelled (passes len a b t5)) (λ t5 w5.
    let fits : len ≤ length a = ltb-false _ _ t5 in
    rw (spelled, field 4 16 a b (omega arith), take-append-le len a b fits) refl) w4) w3) w2) w1) whole

-- ---- how long messages are

answered : (len : ℕ) (read : Result Content Fault) (x : Content × ℕ) → answer len read ≡ Ok x → len ≡ x.1
answered len (Ok c) x is = ap (λ (found : Result (Content × ℕ) SyncError). elim found [ Ok y ↦ y.1 | Err e ↦ 0 ]) is
answered len (Err fault) x is = absurd (cc)

-- a message that is there has at most 1480 bytes, and they are there
pub message_within : (bytes : List ℕ) (x : Content × ℕ) → message_at bytes ≡ Ok x → (x.1 ≤ length bytes) × (x.1 ≤ 1480)
unfolding message_at
message_within bytes x is =
    let len : ℕ = from_be_bytes w16 (take 2 (drop 2 bytes)) in
    passed refusals.Short (ltb (length bytes) 20) _ x is (λ t1 e1.
    passed refusals.Version (not (eqb (get_or bytes 0 0) 5)) _ x e1 (λ t2 e2.
    passed (refusals.Fixed 1) (not (eqb (get_or bytes 1 0) 0)) _ x e2 (λ t3 e3.
    passed refusals.Length (ltb len 40 || ltb 1480 len) _ x e3 (λ t4 e4.
    passed refusals.Short (ltb (length bytes) len) _ x e4 (λ t5 e5.
    let same = answered len (sections_at (take 16 (drop 4 bytes)) (drop 20 (take len bytes))) x e5 in
    let bounds = or_parts (ltb len 40) (ltb 1480 len) t4 in
    rw (← same) (ltb-false _ _ t5, ltb-false _ _ bounds.1))))))

never_short : (len : ℕ) (read : Result Content Fault) → answer len read ≡ Err refusals.Short → ⊥
never_short len (Ok c) is = cc
never_short len (Err (faults.Action action)) is = cc
never_short len (Err faults.Count) is = cc
never_short len (Err faults.NoEnd) is = cc
never_short len (Err faults.Trailing) is = cc
never_short len (Err (faults.Differs left)) is = cc

-- a message that isn't whole yet has fewer bytes than a message may have
pub short_message : (bytes : List ℕ) → message_at bytes ≡ Err refusals.Short → length bytes < 1480
unfolding message_at
short_message bytes is =
    let len : ℕ = from_be_bytes w16 (take 2 (drop 2 bytes)) in
    lacks (ltb (length bytes) 20) _ is (λ t. omega (arith, ltb-true _ _ t)) (λ t1 e1.
    goes_on refusals.Version (not (eqb (get_or bytes 0 0) 5)) _ (λ same. cc) e1 (λ t2 e2.
    goes_on (refusals.Fixed 1) (not (eqb (get_or bytes 1 0) 0)) _ (λ same. cc) e2 (λ t3 e3.
    goes_on refusals.Length (ltb len 40 || ltb 1480 len) _ (λ same. cc) e3 (λ t4 e4.
    let bounds = or_parts (ltb len 40) (ltb 1480 len) t4 in
    let most : len ≤ 1480 = ltb-false _ _ bounds.1 in
    lacks (ltb (length bytes) len) _ e4 (λ t. omega (arith, ltb-true _ _ t, most)) (λ t5 e5.
    absurd (never_short len (sections_at (take 16 (drop 4 bytes)) (drop 20 (take len bytes))) e5))))))
