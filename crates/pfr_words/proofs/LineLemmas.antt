-- The lines of words.
use Rattle.std.proofs.Common.{◌≡◌, ◌≤◌, ℕ, suc, ◌+◌, eqb, Bool, true, false, if◌then◌else◌, List, [], ◌∷◌, ◌++◌, ◌&&◌, Option, Some, None, refl, sym, arith}
use Rattle.std.proofs.lemmas.Bool.{cond_both}
use Rattle.std.proofs.lemmas.List.{append_assoc, map-append}
use Rattle.std.proofs.lemmas.List.Elements.{All-append, All-cons, All-head, All-nil, All-tail, All-weaker}
use Rattle.std.specs.List.{All, concat}
use Rattle.pfr_words.specs.declared.sign.Sign.TheVariants as s
use Rattle.pfr_words.specs.declared.word.Token.{Token}
use Rattle.pfr_words.specs.declared.word.Token.TheVariants as t
use Rattle.pfr_words.specs.declared.word.Word.{Word}
use Rattle.pfr_words.specs.declared.word.WordFault.TheVariants.{Unterminated}
use Rattle.pfr_words.specs.Words.{closed_by, closers, is_sign, moved, newlines, on_line, token_of, with_braces, words_on}

one_newline : (is : Bool) (n m : ℕ) → (if is then suc (n + m) else (n + m)) ≡ (if is then suc n else n) + m
one_newline true n m = omega arith
one_newline false n m = refl

pub newlines-append : (text more : List ℕ) → newlines (text ++ more) ≡ newlines text + newlines more
newlines-append [] more = omega arith
newlines-append (b ∷ text) more = rw (newlines-append text more) (one_newline (eqb b 10) (newlines text) (newlines more))

-- ---- from the first line to the last

abbrev Within : ℕ → ℕ → Word → Type 0
Within low high w = (low ≤ w.line) × (w.line ≤ high)

one_within : (line high : ℕ) (token : Option Token) → line ≤ high → All (Within line high) (on_line line token)
one_within line high None below = All-nil (Within line high)
one_within line high (Some token) below = All-cons (Within line high) (record { line = line; token = token }) [] (omega arith, below) (All-nil (Within line high))

pub lines_within : (line : ℕ) (pieces : List (List ℕ)) → All (Within line (line + newlines (concat pieces))) (words_on line pieces)
lines_within line [] = All-nil (Within line (line + newlines (concat [])))
lines_within line (piece ∷ pieces) =
    let low = line + newlines piece in
    let high = line + newlines (concat (piece ∷ pieces)) in
    let sum = newlines-append piece (concat pieces) in
    let rest = All-weaker (Within low (low + newlines (concat pieces))) (Within line high) (λ w h. let a = h.0 in let b = h.1 in (omega arith, omega arith)) (words_on low pieces) (lines_within low pieces) in
    All-append (Within line high) (on_line line (token_of piece)) (words_on low pieces) (one_within line high (token_of piece) (omega arith)) rest

closed_within : (low high behind : ℕ) (w : Word) → Within low high w → Within low high (closed_by behind w)
closed_within low high behind w h =
    cond_both (is_sign s.OpenBrace w.token && eqb behind 0) (record w { token = t.Bad Unterminated }) w (Within low high) (λ e. h) (λ e. h)

braces_within : (low high : ℕ) (ws : List Word) → All (Within low high) ws → All (Within low high) (with_braces ws)
braces_within low high [] all = all
braces_within low high (w ∷ ws) all =
    let first = closed_within low high (closers ws) w (All-head (Within low high) w ws all) in
    All-cons (Within low high) (closed_by (closers ws) w) (with_braces ws) first (braces_within low high ws (All-tail (Within low high) w ws all))

pub lines_of : (line : ℕ) (text : List ℕ) (pieces : List (List ℕ)) → concat pieces ≡ text → All (Within line (line + newlines text)) (with_braces (words_on line pieces))
lines_of line text pieces e = braces_within line (line + newlines text) (words_on line pieces) (rw e at (lines_within line pieces))

-- ---- further down

pub words_on-append : (line : ℕ) (pieces more : List (List ℕ)) → words_on line (pieces ++ more) ≡ words_on line pieces ++ words_on (line + newlines (concat pieces)) more
words_on-append line [] more = let e : line + 0 ≡ line = omega arith in rw e refl
words_on-append line (piece ∷ pieces) more =
    let sum = newlines-append piece (concat pieces) in
    let e : line + newlines piece + newlines (concat pieces) ≡ line + newlines (concat (piece ∷ pieces)) = omega arith in
    rw (words_on-append (line + newlines piece) pieces more, e) (sym (append_assoc (on_line line (token_of piece)) _ _))

one_moved : (lines line : ℕ) (token : Option Token) → on_line (lines + line) token ≡ moved lines (on_line line token)
one_moved lines line None = refl
one_moved lines line (Some token) = refl

pub words_moved : (lines line : ℕ) (pieces : List (List ℕ)) → words_on (lines + line) pieces ≡ moved lines (words_on line pieces)
words_moved lines line [] = refl
words_moved lines line (piece ∷ pieces) =
    let e : lines + line + newlines piece ≡ lines + (line + newlines piece) = omega arith in
    rw (e, words_moved lines (line + newlines piece) pieces, one_moved lines line (token_of piece)) (sym (map-append (λ (w : Word). record w { line = lines + w.line }) (on_line line (token_of piece)) _))
