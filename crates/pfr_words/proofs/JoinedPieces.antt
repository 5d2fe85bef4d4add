-- The pieces of a text are the text, and those of two texts with a newline between them are the pieces of both.
use Rattle.std.proofs.Common.{◌≡◌, ◌≢◌, ◌≤◌, ℕ, zero, suc, ◌-◌, List, [], ◌∷◌, ◌++◌, length, take, drop, refl, arith}
use Rattle.std.proofs.lemmas.List.{take-append-drop, take-append-le, length-take}
use Rattle.std.proofs.lemmas.List.Elements.{All-nil, All-cons}
use Rattle.std.specs.List.{All, concat}
use Rattle.pfr_words.specs.Words.{piece_len, pieces_from}
use Rattle.pfr_words.proofs.PieceLemmas.{drop_one}
use Rattle.pfr_words.proofs.RunLemmas.{last_of, piece_joined, piece_within}

pub whole_from : (n : ℕ) (text : List ℕ) → concat (pieces_from n text) ≡ drop n text
whole_from zero [] = refl
whole_from (suc n) [] = refl
whole_from (suc n) (b ∷ text) = whole_from n text
whole_from zero (b ∷ text) =
    let len = piece_len (b ∷ text) in
    rw (whole_from (len - 1) text, drop_one len b text (piece_within b text).0) (take-append-drop len (b ∷ text))

pub some_from : (n : ℕ) (text : List ℕ) → All (λ (piece : List ℕ). 1 ≤ length piece) (pieces_from n text)
some_from zero [] = All-nil (λ (piece : List ℕ). 1 ≤ length piece)
some_from (suc n) [] = All-nil (λ (piece : List ℕ). 1 ≤ length piece)
some_from (suc n) (b ∷ text) = some_from n text
some_from zero (b ∷ text) =
    let len = piece_len (b ∷ text) in
    let some = (piece_within b text).0 in
    let long = length-take len (b ∷ text) in
    All-cons (λ (piece : List ℕ). 1 ≤ length piece) (take len (b ∷ text)) (pieces_from (len - 1) text) (omega arith) (some_from (len - 1) text)

pub joined_from : (n before : ℕ) (text more : List ℕ) → n ≤ length text → last_of before text ≢ 92
    → pieces_from n (text ++ 10 ∷ more) ≡ pieces_from n text ++ pieces_from 0 (10 ∷ more)
joined_from zero before [] more within other = refl
joined_from (suc n) before [] more within other = absurd (omega arith)
joined_from (suc n) before (b ∷ text) more within other = joined_from n b text more (omega arith) other
joined_from zero before (b ∷ text) more within other =
    let len = piece_len (b ∷ text) in
    let within = (piece_within b text).1 in
    let below : len ≤ length (b ∷ text) = omega arith in
    rw (piece_joined b text more other, take-append-le len (b ∷ text) (10 ∷ more) below, joined_from (len - 1) b text more (omega arith) other) refl
