-- The words of a text stand on lines of it.
use Rattle.std.proofs.Common.{◌≡◌, ◌≤◌, ◌==◌, ◌+◌, ◌-◌, ℕ, zero, suc, Bool, true, false, if◌then◌else◌, List, [], ◌∷◌, ◌++◌, take, Option, Some, None, arith}
use Rattle.pfr_words.specs.declared.word.Token.{Token}
use Rattle.pfr_words.specs.declared.word.Word.{Word}
use Rattle.pfr_words.specs.Words.{piece_len, pieces_from, pieces, token_of, newlines, on_line, words_on, with_braces, words}
use Rattle.pfr_terms.specs.Input.{start}
use Rattle.pfr_terms.proofs.Lines.{IsLine, AreOn, Within, either}

-- ---- pieces

abbrev all_newlines : List (List ℕ) → ℕ
all_newlines [] = 0
all_newlines (piece ∷ more) = newlines piece + all_newlines more

more_by : (is_newline : Bool) (n m k : ℕ) → k + n ≤ m → k + (if is_newline then suc n else n) ≤ (if is_newline then suc m else m)
more_by true n m k within = omega arith
more_by false n m k within = omega arith

one_more : (b k : ℕ) (front text : List ℕ) → k + newlines front ≤ newlines text → k + newlines (b ∷ front) ≤ newlines (b ∷ text)
one_more b k front text within = more_by (b == 10) (newlines front) (newlines text) k within

no_less : (b : ℕ) (text : List ℕ) → newlines text ≤ newlines (b ∷ text)
no_less b text = either (λ m. newlines text ≤ m) (b == 10) _ _ (omega arith) (omega arith)

first_counted : (len b : ℕ) (text : List ℕ) → all_newlines (pieces_from (len - 1) text) + newlines (take (len - 1) text) ≤ newlines text
    → newlines (take len (b ∷ text)) + all_newlines (pieces_from (len - 1) text) ≤ newlines (b ∷ text)
first_counted zero b text within = let fewer = no_less b text in omega arith
first_counted (suc len) b text within =
    let e : suc len - 1 ≡ len = omega arith in
    let counted = one_more b (all_newlines (pieces_from len text)) (take len text) text (rw e at within) in
    rw e (omega arith)

-- what belongs to the piece before, and the pieces
counted : (skipped : ℕ) (text : List ℕ) → all_newlines (pieces_from skipped text) + newlines (take skipped text) ≤ newlines text
counted zero [] = omega arith
counted (suc skipped) [] = omega arith
counted (suc skipped) (b ∷ text) = one_more b _ (take skipped text) text (counted skipped text)
counted zero (b ∷ text) = let first = first_counted (piece_len (b ∷ text)) b text (counted (piece_len (b ∷ text) - 1) text) in omega arith

-- ---- words

on_line_too : (n line : ℕ) (found : Option Token) (ws : List Word) → IsLine n line → AreOn n ws → AreOn n (on_line line found ++ ws)
on_line_too n line None ws is on = on
on_line_too n line (Some token) ws is on = (is, on)

words_are_on : (n line : ℕ) (some_pieces : List (List ℕ)) → 1 ≤ line → line + all_newlines some_pieces ≤ n → AreOn n (words_on line some_pieces)
words_are_on n line [] some within = tt
words_are_on n line (piece ∷ more) some within =
    on_line_too n line (token_of piece) _ (record { some = some; within = omega arith }) (words_are_on n (line + newlines piece) more (omega arith) (omega arith))

braces_are_on : (n : ℕ) (ws : List Word) → AreOn n ws → AreOn n (with_braces ws)
braces_are_on n [] on = tt
braces_are_on n (w ∷ ws) on = (either (λ (v : Word). IsLine n v.line) _ _ _ on.0 on.0, braces_are_on n ws on.1)

pub begins_within : (text : List ℕ) → Within (1 + newlines text) (start (words text))
unfolding words pieces
begins_within text = record {
  words = braces_are_on (1 + newlines text) _ (words_are_on (1 + newlines text) 1 _ (omega arith) (let all = counted 0 text in omega arith));
  line = record { some = omega arith; within = omega arith };
}
