-- The pieces of a text one by one.
use Rattle.std.proofs.Common.{◌≡◌, ◌≤◌, ℕ, zero, suc, ◌+◌, ◌-◌, List, [], ◌∷◌, ◌++◌, length, take, drop, refl, ap, arith}
use Rattle.std.proofs.lemmas.List.{append_assoc}
use Rattle.pfr_words.specs.declared.word.Word.{Word}
use Rattle.pfr_words.specs.Words.{piece_len, pieces_from, token_of, newlines, on_line, words_on}

pub skips : (n : ℕ) (text : List ℕ) → pieces_from n text ≡ pieces_from 0 (drop n text)
skips zero text = refl
skips (suc n) [] = refl
skips (suc n) (b ∷ text) = skips n text

pub drop_one : (n b : ℕ) (text : List ℕ) → 1 ≤ n → drop (n - 1) text ≡ drop n (b ∷ text)
drop_one zero b text some = absurd (omega arith)
drop_one (suc n) b text some = let e : suc n - 1 ≡ n = omega arith in ap (λ k. drop k text) e

-- the first piece, and those of what is behind it
pub first_piece : (text : List ℕ) → 1 ≤ length text → 1 ≤ piece_len text
    → pieces_from 0 text ≡ take (piece_len text) text ∷ pieces_from 0 (drop (piece_len text) text)
first_piece [] some moves = absurd (omega arith)
first_piece (b ∷ text) some moves = rw (skips (piece_len (b ∷ text) - 1) text, drop_one (piece_len (b ∷ text)) b text moves) refl

-- one piece more whose word is found
pub next_piece : (text : List ℕ) (line : ℕ) (found : List Word) → 1 ≤ length text → 1 ≤ piece_len text
    → (found ++ on_line line (token_of (take (piece_len text) text))) ++ words_on (line + newlines (take (piece_len text) text)) (pieces_from 0 (drop (piece_len text) text))
    ≡ found ++ words_on line (pieces_from 0 text)
next_piece text line found some moves = rw (first_piece text some moves) (append_assoc found _ _)
