-- Words written into bytes leave the others alone.
use Rattle.std.specs.Prelude.{⊤}
use Rattle.std.proofs.Common.{◌≡◌, ◌⊎◌, inl, inr, ◌≤◌, ◌-◌, ◌+◌, ◌++◌, ℕ, List, [], ◌∷◌, length, take, drop, refl, sym, ◌∙◌, ap, subst, arith}
use Rattle.std.proofs.lemmas.List.{append_assoc, drop-append-le, drop-drop, length-append, length-drop, length-take-le, take-append-drop}
use Rattle.std.proofs.Math.Seq.{drop-append-add}
use Rattle.byteorder.specs.Endian.{big_bytes, big_number}
use Rattle.byteorder.specs.Numbers.{big_from-append, length-bytes_high_first}
use Rattle.pfr_net.specs.declared.address.Ipv4Address.{Ipv4Address}
use Rattle.pfr_headers.specs.Rewriting.{address_words}
use Rattle.pfr_headers.specs.Checksum.{Word, difference_of, with_word, with_words, word, word_at}

-- a word lies beside a place of two bytes, and within the bytes
pub record Beside (size place : ℕ) (w : Word) : Type 0 where
  pub within : w.place + 2 ≤ size
  pub beside : (w.place + 2 ≤ place) ⊎ (place + 2 ≤ w.place)

pub length_with : (w : Word) (bytes : List ℕ) → w.place + 2 ≤ length bytes → length (with_word w bytes) ≡ length bytes
unfolding with_word
length_with w bytes within =
    let a = length-take-le w.place bytes (omega arith) in
    let b = length-bytes_high_first 2 w.value in
    let c = length-drop (w.place + 2) bytes in
    length-append (take w.place bytes) (big_bytes 2 w.value ++ drop (w.place + 2) bytes)
    ∙ ap (λ (n : ℕ). length (take w.place bytes) + n) (length-append (big_bytes 2 w.value) (drop (w.place + 2) bytes))
    ∙ omega (arith, a, b, c)

pub behind : (w : Word) (bytes : List ℕ) (place : ℕ) → w.place + 2 ≤ length bytes → w.place + 2 ≤ place → drop place (with_word w bytes) ≡ drop place bytes
unfolding with_word
behind w bytes place within before =
    let a = length-take-le w.place bytes (omega arith) in
    let b = length-bytes_high_first 2 w.value in
    let front = length-append (take w.place bytes) (big_bytes 2 w.value) in
    let size : length (take w.place bytes ++ big_bytes 2 w.value) ≡ w.place + 2 = omega (arith, a, b, front) in
    let at : length (take w.place bytes ++ big_bytes 2 w.value) + (place - (w.place + 2)) ≡ place = omega (arith, size) in
    let back : w.place + 2 + (place - (w.place + 2)) ≡ place = omega arith in
    ap (λ (t : List ℕ). drop place t) (sym (append_assoc (take w.place bytes) (big_bytes 2 w.value) (drop (w.place + 2) bytes)))
    ∙ subst (λ (n : ℕ). drop n ((take w.place bytes ++ big_bytes 2 w.value) ++ drop (w.place + 2) bytes) ≡ drop (place - (w.place + 2)) (drop (w.place + 2) bytes)) at (drop-append-add (take w.place bytes ++ big_bytes 2 w.value) (drop (w.place + 2) bytes) (place - (w.place + 2)))
    ∙ drop-drop (place - (w.place + 2)) (w.place + 2) bytes
    ∙ ap (λ (n : ℕ). drop n bytes) back

in_front : (bytes rest : List ℕ) (end place : ℕ) → end ≤ length bytes → place + 2 ≤ end → big_number 2 (drop place (take end bytes ++ rest)) ≡ big_number 2 (drop place (take end bytes))
in_front bytes rest end place within before =
    let a = length-take-le end bytes within in
    let b = length-drop place (take end bytes) in
    ap (λ (t : List ℕ). big_number 2 t) (drop-append-le place (take end bytes) rest (omega (arith, a)))
    ∙ big_from-append 2 (drop place (take end bytes)) rest (omega (arith, a, b))

ahead : (w : Word) (bytes : List ℕ) (place : ℕ) → w.place + 2 ≤ length bytes → place + 2 ≤ w.place → word_at (with_word w bytes) place ≡ word_at bytes place
unfolding with_word
ahead w bytes place within before =
    in_front bytes (big_bytes 2 w.value ++ drop (w.place + 2) bytes) w.place place (omega arith) before
    ∙ sym (in_front bytes (drop w.place bytes) w.place place (omega arith) before)
    ∙ ap (λ (t : List ℕ). big_number 2 (drop place t)) (take-append-drop w.place bytes)

by_side : (w : Word) (bytes : List ℕ) (place : ℕ) → w.place + 2 ≤ length bytes → (w.place + 2 ≤ place) ⊎ (place + 2 ≤ w.place) → word_at (with_word w bytes) place ≡ word_at bytes place
by_side w bytes place within (inl before) = ap (λ (t : List ℕ). big_number 2 t) (behind w bytes place within before)
by_side w bytes place within (inr after) = ahead w bytes place within after

-- a word beside a written one stays
pub kept : (w : Word) (bytes : List ℕ) (place : ℕ) → Beside (length bytes) place w → word_at (with_word w bytes) place ≡ word_at bytes place
kept w bytes place b = by_side w bytes place b.within b.beside

-- and beside written ones
abbrev pub AllBeside : ℕ → ℕ → List Word → Type 0
AllBeside size place [] = ⊤
AllBeside size place (w ∷ ws) = Beside size place w × AllBeside size place ws

pub all_kept : (ws : List Word) (bytes : List ℕ) (place : ℕ) → AllBeside (length bytes) place ws → word_at (with_words ws bytes) place ≡ word_at bytes place
all_kept [] bytes place b = refl
all_kept (w ∷ ws) bytes place b =
    let size = length_with w bytes b.0.within in
    all_kept ws (with_word w bytes) place (rw size b.1) ∙ kept w bytes place b.0

-- words written after others
pub with_append : (xs ys : List Word) (bytes : List ℕ) → with_words (xs ++ ys) bytes ≡ with_words ys (with_words xs bytes)
with_append [] ys bytes = refl
with_append (x ∷ xs) ys bytes = with_append xs ys (with_word x bytes)

pub difference_append : (xs ys : List Word) (bytes : List ℕ) → difference_of bytes (xs ++ ys) ≡ difference_of bytes xs + difference_of bytes ys
difference_append [] ys bytes = omega arith
difference_append (x ∷ xs) ys bytes =
    let rest = difference_append xs ys bytes in
    omega (arith, rest)

abbrev pub AllWithin : ℕ → List Word → Type 0
AllWithin size [] = ⊤
AllWithin size (w ∷ ws) = (w.place + 2 ≤ size) × AllWithin size ws

pub length_with_all : (ws : List Word) (bytes : List ℕ) → AllWithin (length bytes) ws → length (with_words ws bytes) ≡ length bytes
length_with_all [] bytes h = refl
length_with_all (w ∷ ws) bytes h =
    let size = length_with w bytes h.0 in
    length_with_all ws (with_word w bytes) (rw size h.1) ∙ size

-- the second word of an address is beside the first
pub next_kept : (place value : ℕ) (bytes : List ℕ) → place + 4 ≤ length bytes → word_at (with_word (word place value) bytes) (place + 2) ≡ word_at bytes (place + 2)
next_kept place value bytes within =
    kept (word place value) bytes (place + 2) (record { within = omega arith; beside = inl (omega arith) })

-- words that lie between two places
abbrev pub Spans : ℕ → ℕ → List Word → Type 0
Spans low high [] = ⊤
Spans low high (w ∷ ws) = (low ≤ w.place) × (w.place + 2 ≤ high) × Spans low high ws

beside_span : (ws : List Word) (low high size place : ℕ) → Spans low high ws → high ≤ size → (high ≤ place) ⊎ (place + 2 ≤ low) → AllBeside size place ws
beside_span [] low high size place s within side = record {}
beside_span (w ∷ ws) low high size place s within (inl before) =
    let a = s.0 in
    let b = s.1 in (
      record { within = omega arith; beside = inl (omega arith) },
      beside_span ws low high size place s.2 within (inl before),
    )
beside_span (w ∷ ws) low high size place s within (inr after) =
    let a = s.0 in
    let b = s.1 in (
      record { within = omega arith; beside = inr (omega arith) },
      beside_span ws low high size place s.2 within (inr after),
    )

-- a word that lies outside of them stays
pub outside : (ws : List Word) (bytes : List ℕ) (low high place : ℕ) → Spans low high ws → high ≤ length bytes → (high ≤ place) ⊎ (place + 2 ≤ low) → word_at (with_words ws bytes) place ≡ word_at bytes place
outside ws bytes low high place s within side = all_kept ws bytes place (beside_span ws low high (length bytes) place s within side)

pub spans_append : (xs ys : List Word) (low high : ℕ) → Spans low high xs → Spans low high ys → Spans low high (xs ++ ys)
spans_append [] ys low high a b = b
spans_append (x ∷ xs) ys low high a b = (a.0, a.1, spans_append xs ys low high a.2 b)

pub spans_wider : (ws : List Word) (low high low' high' : ℕ) → Spans low high ws → low' ≤ low → high ≤ high' → Spans low' high' ws
spans_wider [] low high low' high' s a b = record {}
spans_wider (w ∷ ws) low high low' high' s a b =
    let c = s.0 in
    let d = s.1 in
    (omega arith, omega arith, spans_wider ws low high low' high' s.2 a b)

-- the same for one word, and for the two of an address
pub kept_behind : (place value other : ℕ) (bytes : List ℕ) → place + 2 ≤ length bytes → place + 2 ≤ other → word_at (with_word (word place value) bytes) other ≡ word_at bytes other
kept_behind place value other bytes within before = kept (word place value) bytes other (record { within = within; beside = inl before })

pub kept_before : (place value other : ℕ) (bytes : List ℕ) → place + 2 ≤ length bytes → other + 2 ≤ place → word_at (with_word (word place value) bytes) other ≡ word_at bytes other
kept_before place value other bytes within after = kept (word place value) bytes other (record { within = within; beside = inr after })

pub address_kept : (place other : ℕ) (address : Ipv4Address) (bytes : List ℕ) → place + 4 ≤ length bytes → other + 2 ≤ place → word_at (with_words (address_words place address) bytes) other ≡ word_at bytes other
address_kept place other address bytes within after =
    all_kept (address_words place address) bytes other (
      record { within = omega arith; beside = inr after },
      (record { within = omega arith; beside = inr (omega arith) }, record {}),
    )

-- what words bring doesn't change by words written before them
pub difference_same : (before ws : List Word) (bytes : List ℕ) (low high low' high' : ℕ) → Spans low high before → Spans low' high' ws → high ≤ low' → high ≤ length bytes → difference_of (with_words before bytes) ws ≡ difference_of bytes ws
difference_same before [] bytes low high low' high' a b over within = refl
difference_same before (w ∷ ws) bytes low high low' high' a b over within =
    let c = b.0 in
    rw (outside before bytes low high w.place a within (inl (omega arith)), difference_same before ws bytes low high low' high' a b.2 over within) refl
