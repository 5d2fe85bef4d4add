-- The words of two texts with a newline between them.
use Rattle.std.proofs.Common.{◌≡◌, ◌≢◌, ◌≤◌, ℕ, zero, suc, ◌+◌, ◌-◌, ◌&&◌, eqb, Bool, true, false, if◌then◌else◌, List, [], ◌∷◌, ◌++◌, length, slice_index, refl, ap, arith}
use Rattle.std.proofs.lemmas.Bool.{ne_eqb}
use Rattle.pfr_words.specs.declared.sign.Sign.TheVariants as s
use Rattle.pfr_words.specs.declared.word.Token.TheVariants as t
use Rattle.pfr_words.specs.declared.word.Word.{Word}
use Rattle.pfr_words.specs.declared.word.WordFault.TheVariants.{Unterminated}
use Rattle.pfr_words.specs.Words.{closed_by, closers, closers_before, double_sign, is_sign, moved, newlines, piece_len, pieces, pieces_from, token_of, with_braces, words, words_on}
use Rattle.pfr_words.proofs.JoinedPieces.{joined_from, whole_from}
use Rattle.pfr_words.proofs.LineLemmas.{words_moved, words_on-append}
use Rattle.pfr_words.proofs.RunLemmas.{last_of}

-- ---- braces

before_if : (opens closes : Bool) (n m : ℕ) → n ≤ m → (if opens then n - 1 else if closes then n + 1 else n) ≤ (if opens then m - 1 else if closes then m + 1 else m)
before_if true closes n m below = omega arith
before_if false true n m below = omega arith
before_if false false n m below = below

closers-append : (ws more : List Word) → closers ws ≤ closers (ws ++ more)
closers-append [] more = omega arith
closers-append (w ∷ ws) more = before_if (is_sign s.OpenBrace w.token) (is_sign s.CloseBrace w.token) (closers ws) (closers (ws ++ more)) (closers-append ws more)

-- a word that is no fault is none if more closing braces are behind it
kept_by : (opens : Bool) (behind more : ℕ) (w : Word) → is_sign s.OpenBrace w.token ≡ opens → behind ≤ more → closed_by behind w ≡ w → closed_by more w ≡ w
kept_by false behind more w e below same = rw e refl
kept_by true behind zero w e below same = let none : behind ≡ 0 = omega arith in rw none at same
kept_by true behind (suc more) w e below same = rw (e, ne_eqb (suc more) 0 (λ z. omega arith)) refl

kept : (ws more : List Word) → with_braces ws ≡ ws → with_braces (ws ++ more) ≡ ws ++ with_braces more
kept [] more same = refl
kept (w ∷ ws) more same =
    let first : closed_by (closers ws) w ≡ w = cc in
    let rest : with_braces ws ≡ ws = cc in
    rw (kept_by (is_sign s.OpenBrace w.token) (closers ws) (closers (ws ++ more)) w refl (closers-append ws more) first, kept ws more rest) refl

closers-moved : (lines : ℕ) (ws : List Word) → closers (moved lines ws) ≡ closers ws
closers-moved lines [] = refl
closers-moved lines (w ∷ ws) = ap (λ n. closers_before w.token n) (closers-moved lines ws)

abbrev down : ℕ → Word → Word
down lines w = record w { line = lines + w.line }

either_down : (lines : ℕ) (w v : Word) (fault : Bool) → (if fault then down lines w else down lines v) ≡ down lines (if fault then w else v)
either_down lines w v true = refl
either_down lines w v false = refl

closed_down : (lines behind : ℕ) (w : Word) → closed_by behind (down lines w) ≡ down lines (closed_by behind w)
closed_down lines behind w = either_down lines (record w { token = t.Bad Unterminated }) w (is_sign s.OpenBrace w.token && eqb behind 0)

braces-moved : (lines : ℕ) (ws : List Word) → with_braces (moved lines ws) ≡ moved lines (with_braces ws)
braces-moved lines [] = refl
braces-moved lines (w ∷ ws) = rw (closers-moved lines ws, closed_down lines (closers ws) w, braces-moved lines ws) refl

-- ---- the law

last_is : (b : ℕ) (text : List ℕ) → slice_index (b ∷ text) (length text) ≡ last_of b text
last_is b [] = refl
last_is b (x ∷ text) = last_is x text

last : (text : List ℕ) → slice_index text (length text - 1) ≡ last_of 0 text
last [] = refl
last (b ∷ text) = let e : suc (length text) - 1 ≡ length text = omega arith in rw e (last_is b text)

-- the words from a newline on that ends a line
line_end : (line : ℕ) (text : List ℕ) → words_on line (pieces_from 0 (10 ∷ text)) ≡ record { line = line; token = t.LineEnd } ∷ words_on (line + 1) (pieces_from 0 text)
unfolding piece_len token_of double_sign
line_end line text = refl

pub words_joined : (first second : List ℕ) → slice_index first (length first - 1) ≢ 92 → words first ≡ words_on 1 (pieces first)
    → words (first ++ 10 ∷ second) ≡ words first ++ record { line = 1 + newlines first; token = t.LineEnd } ∷ moved (1 + newlines first) (words second)
unfolding words pieces
words_joined first second ends closed =
    let other : last_of 0 first ≢ 92 = rw (← last first) ends in
    let split = joined_from 0 0 first second (omega arith) other in
    let line = 1 + newlines first in
    let found = words_on 1 (pieces_from 0 first) in
    let behind = words_on 1 (pieces_from 0 second) in
    rw (
      split,
      words_on-append 1 (pieces_from 0 first) (pieces_from 0 (10 ∷ second)),
      whole_from 0 first,
      line_end line second,
      words_moved line 1 (pieces_from 0 second),
      kept found (record { line = line; token = t.LineEnd } ∷ moved line behind) closed,
      braces-moved line behind,
      closed,
    )
    refl
