-- Whole messages: what is read is spelled so, and what is spelled so is read.
use Rattle.std.proofs.Common.{◌≡◌, ℕ, ◌+◌, ◌-◌, ◌*◌, ◌/◌, ◌%◌, ◌≤◌, Bool, true, false, not, ◌||◌, cond, eqb, ltb, List, [], ◌∷◌, ◌++◌, length, get_or, take, drop, Result, Ok, Err, refl, sym, ap, subst, ◌∙◌, append_assoc, arith}
use Rattle.std.specs.Int.{from_be_bytes, to_be_bytes, w16}
use Rattle.std.proofs.lemmas.Bool.{eqb-true, ltb-false}
use Rattle.std.proofs.lemmas.List.{append_cancel_left, drop-drop, drop-take, drop_at, get_or-take, length-append, length-drop, length-take-le, take-append-drop, take-take, take_at}
use Rattle.pfr_messages.specs.declared.error.SyncError.{SyncError}
use Rattle.pfr_messages.specs.declared.fault.Fault.{Fault}
use Rattle.pfr_messages.specs.Messages.{Content, Fits, Spells, answer, message_at, sections, sections_at, spelling}
use Rattle.pfr_messages.proofs.ExactMessages.{SectionsTake, sections_take}
use Rattle.pfr_messages.proofs.Formats.{IsBytes, IsBytes-drop, IsBytes-take, wide16}
use Rattle.pfr_messages.proofs.Lengths.{least}
use Rattle.pfr_messages.proofs.MessageParts.{message_is}
use Rattle.pfr_messages.proofs.SectionsAgain.{sections_again}

-- ---- what is read is spelled so

-- a test that found nothing to refuse
passed : {A : Type 0} (b : Bool) (d : SyncError) (r : Result A SyncError) (y : A) → cond b (Err d) r ≡ Ok y → {G : Type 0}
    → (b ≡ false → r ≡ Ok y → G) → G
passed true d r y e then = absurd cc
passed false d r y e then = then refl e

holds : (b : Bool) → not b ≡ false → b ≡ true
holds true e = refl
holds false e = absurd cc

neither : (a b : Bool) → (a || b) ≡ false → (a ≡ false) × (b ≡ false)
neither true b e = absurd cc
neither false b e = (refl, e)

abbrev pub found : Content × ℕ → Result (Content × ℕ) SyncError
found x = Ok x

pub found_is : (x y : Content × ℕ) → found x ≡ found y → x ≡ y
found_is x y e = cc

answered : (len : ℕ) (read : Result Content Fault) (x : Content × ℕ) → answer len read ≡ Ok x → (read ≡ Ok x.0) × (len ≡ x.1)
answered len (Ok c) x e =
    let same : (c, len) ≡ x = found_is (c, len) x e in
    (ap (λ (p : Content × ℕ). Ok p.0) same, ap (λ (p : Content × ℕ). p.1) same)
answered len (Err fault) x e = absurd cc

first_four : (bytes : List ℕ) → 4 ≤ length bytes
    → bytes ≡ get_or bytes 0 0 ∷ get_or bytes 1 0 ∷ (take 2 (drop 2 bytes) ++ drop 4 bytes)
first_four [] le = absurd (omega arith)
first_four (a ∷ []) le = absurd (omega arith)
first_four (a ∷ b ∷ []) le = absurd (omega arith)
first_four (a ∷ b ∷ c ∷ []) le = absurd (omega arith)
first_four (a ∷ b ∷ c ∷ d ∷ bytes) le = refl

-- bytes of a front
within : (len n m : ℕ) (bytes : List ℕ) → n + m ≤ len → take m (drop n (take len bytes)) ≡ take m (drop n bytes)
within len n m bytes le =
    let split : n + (len - n) ≡ len = omega arith in
    ap (λ (k : ℕ). take m (drop n (take k bytes))) (sym split) ∙ ap (take m) (drop-take n (len - n) bytes)
    ∙ take-take m (len - n) (drop n bytes) (omega arith)

message_spells : (bytes : List ℕ) (c : Content) (len : ℕ) → IsBytes bytes → 20 ≤ length bytes → get_or bytes 0 0 ≡ 5
    → get_or bytes 1 0 ≡ 0 → from_be_bytes w16 (take 2 (drop 2 bytes)) ≡ len → 40 ≤ len → len ≤ 1480 → len ≤ length bytes
    → SectionsTake (take 16 (drop 4 bytes)) (drop 20 (take len bytes)) c → Spells (take len bytes) c
message_spells bytes c len are header version pad spelled low high enough taken =
    let text : List ℕ = take len bytes in
    let two : List ℕ = take 2 (drop 2 bytes) in
    let text-len : length text ≡ len = length-take-le len bytes enough in
    let sections-len : 20 + length (sections c) ≡ len = omega (arith, ap length taken.parts, length-drop 20 text, text-len) in
    let first : get_or text 0 0 ≡ 5 = get_or-take len bytes 0 0 (omega arith) ∙ version in
    let second : get_or text 1 0 ≡ 0 = get_or-take len bytes 1 0 (omega arith) ∙ pad in
    let two-len : length two ≡ 2 = length-take-le 2 (drop 2 bytes) (omega (arith, length-drop 2 bytes)) in
    let len-bytes : to_be_bytes w16 (20 + length (sections c)) ≡ two =
    ap (to_be_bytes w16) (sections-len ∙ sym spelled)
    ∙ wide16.back two two-len (IsBytes-take 2 (drop 2 bytes) (IsBytes-drop 2 bytes are)) in
    let third : take 2 (drop 2 text) ≡ to_be_bytes w16 (20 + length (sections c)) =
    within len 2 2 bytes (omega arith) ∙ sym len-bytes in
    let checksum : take 16 (drop 4 text) ≡ c.checksum = within len 4 16 bytes (omega arith) ∙ sym taken.checksum_is in
    let others : drop 16 (drop 4 text) ≡ sections c = drop-drop 16 4 text ∙ taken.parts in
    let fourth : drop 4 text ≡ c.checksum ++ sections c =
    sym (take-append-drop 16 (drop 4 text)) ∙ ap (λ (l : List ℕ). l ++ drop 16 (drop 4 text)) checksum
    ∙ ap (λ (l : List ℕ). c.checksum ++ l) others in
    let bytes-are : text ≡ 5 ∷ 0 ∷ (to_be_bytes w16 (20 + length (sections c)) ++ (c.checksum ++ sections c)) =
    first_four text (omega arith)
    ∙ ap (λ (b : ℕ). b ∷ get_or text 1 0 ∷ (take 2 (drop 2 text) ++ drop 4 text)) first
    ∙ ap (λ (b : ℕ). 5 ∷ b ∷ (take 2 (drop 2 text) ++ drop 4 text)) second
    ∙ ap (λ (l : List ℕ). 5 ∷ 0 ∷ (l ++ drop 4 text)) third
    ∙ ap (λ (l : List ℕ). 5 ∷ 0 ∷ (to_be_bytes w16 (20 + length (sections c)) ++ l)) fourth in
    let fits : Fits c = record {
      checksum = ap length taken.checksum_is ∙ length-take-le 16 (drop 4 bytes) (omega (arith, length-drop 4 bytes));
      insertions = taken.insertions;
      updates = taken.updates;
      deletions = taken.deletions;
      insertions_rise = taken.insertions_rise;
      updates_rise = taken.updates_rise;
      deletions_rise = taken.deletions_rise;
      some = taken.some;
      short = omega (arith, sections-len, high);
    } in
    record { fits = fits; bytes = bytes-are }

pub message_takes : (bytes : List ℕ) (c : Content) (len : ℕ) → IsBytes bytes → message_at bytes ≡ Ok (c, len)
    → (len ≤ length bytes) × Spells (take len bytes) c
unfolding message_at
message_takes bytes c len are e =
    let spelled : ℕ = from_be_bytes w16 (take 2 (drop 2 bytes)) in
    passed (ltb (length bytes) 20) _ _ (c, len) e (λ t1 e1.
    passed (not (eqb (get_or bytes 0 0) 5)) _ _ (c, len) e1 (λ t2 e2.
    passed (not (eqb (get_or bytes 1 0) 0)) _ _ (c, len) e2 (λ t3 e3.
    passed (ltb spelled 40 || ltb 1480 spelled) _ _ (c, len) e3 (λ t4 e4.
    passed (ltb (length bytes) spelled) _ _ (c, len) e4 (λ t5 e5.
    let a = answered spelled (sections_at (take 16 (drop 4 bytes)) (drop 20 (take spelled bytes))) (c, len) e5 in
    let bounds = neither (ltb spelled 40) (ltb 1480 spelled) t4 in
    let taken = sections_take (take 16 (drop 4 bytes)) (drop 20 (take spelled bytes)) c
    (IsBytes-drop 20 (take spelled bytes) (IsBytes-take spelled bytes are)) a.0 in
    let enough = ltb-false (length bytes) spelled t5 in
    let spells = message_spells bytes c spelled are (ltb-false (length bytes) 20 t1)
    (eqb-true (get_or bytes 0 0) 5 (holds (eqb (get_or bytes 0 0) 5) t2))
    (eqb-true (get_or bytes 1 0) 0 (holds (eqb (get_or bytes 1 0) 0) t3)) refl
    (ltb-false spelled 40 bounds.0) (ltb-false 1480 spelled bounds.1) enough taken in
    subst (λ (n : ℕ). (n ≤ length bytes) × Spells (take n bytes) c) a.1 (enough, spells))))))

-- ---- what is spelled so is read

pub spelling_len : (c : Content) → Fits c → length (spelling c) ≡ 20 + length (sections c)
spelling_len c fits =
    let whole : length (c.checksum ++ sections c) ≡ length c.checksum + length (sections c) =
    length-append c.checksum (sections c) in
    let sixteen : length c.checksum ≡ 16 = fits.checksum in
    omega (arith, whole, sixteen)

pub message_again : (c : Content) (rest : List ℕ) → Fits c → message_at (spelling c ++ rest) ≡ Ok (c, length (spelling c))
message_again c rest fits =
    let bytes : List ℕ = spelling c ++ rest in
    let len : ℕ = 20 + length (sections c) in
    let short : len ≤ 1480 = fits.short in
    let sixteen : length c.checksum ≡ 16 = fits.checksum in
    let spelled-len : length (spelling c) ≡ len = spelling_len c fits in
    let bytes-len : length bytes ≡ length (spelling c) + length rest = length-append (spelling c) rest in
    let spelled : len / 256 % 256 * 256 + len % 256 ≡ len = omega arith in
    let regrouped : (c.checksum ++ sections c) ++ rest ≡ c.checksum ++ (sections c ++ rest) =
    append_assoc c.checksum (sections c) rest in
    let checksum : take 16 (drop 4 bytes) ≡ c.checksum =
    ap (take 16) regrouped ∙ take_at c.checksum (sections c ++ rest) 16 sixteen in
    let behind : drop 20 bytes ≡ sections c ++ rest =
    ap (drop 16) regrouped ∙ drop_at c.checksum (sections c ++ rest) 16 sixteen in
    let others : take (len - 20) (drop 20 bytes) ≡ sections c =
    ap (take (len - 20)) behind ∙ take_at (sections c) rest (len - 20) (omega arith) in
    message_is bytes len (omega (arith, bytes-len, spelled-len)) refl refl spelled (least c fits) short
    (omega (arith, bytes-len, spelled-len))
    ∙ ap (λ (l : List ℕ). answer len (sections_at l (take (len - 20) (drop 20 bytes)))) checksum
    ∙ ap (λ (l : List ℕ). answer len (sections_at c.checksum l)) others
    ∙ ap (answer len) (sections_again c fits)
    ∙ ap (λ (n : ℕ). found (c, n)) (sym spelled-len)

-- ---- spellings

pub one_reading : (a b : Content) (x y : List ℕ) → Fits a → Fits b → spelling a ++ x ≡ spelling b ++ y → (a ≡ b) × (x ≡ y)
one_reading a b x y fits-a fits-b e =
    let read : found (a, length (spelling a)) ≡ found (b, length (spelling b)) =
    sym (message_again a x fits-a) ∙ ap message_at e ∙ message_again b y fits-b in
    let same : a ≡ b = ap (λ (p : Content × ℕ). p.0) (found_is (a, length (spelling a)) (b, length (spelling b)) read) in
    (same, append_cancel_left (spelling b) x y (ap (λ (c : Content). spelling c ++ x) (sym same) ∙ e))
