-- One more word, of which it is known whether it is closed.
use Rattle.std.proofs.Common.{◌≡◌, ◌<◌, ◌≤◌, ◌+◌, ◌-◌, ℕ, zero, suc, Bool, true, false, if◌then◌else◌, List, [], ◌∷◌, ◌++◌, length, take, drop, slice_set, slice_index_or, refl, ap, arith}
use Rattle.pfr_words.specs.declared.word.Word.{Word}
use Rattle.pfr_words.specs.declared.word.Token.{Token}
use Rattle.pfr_words.specs.declared.sign.Sign.TheVariants as s
use Rattle.pfr_words.specs.Words.{is_sign, closers_before, closers, closed_by, with_braces}

marked : (at : ℕ) (old : List Word) (d : Word) → at < length old
    → slice_set (take (suc at) old ++ with_braces (drop (suc at) old)) at (closed_by (closers (drop (suc at) old)) (slice_index_or (take (suc at) old ++ with_braces (drop (suc at) old)) at d))
    ≡ take at old ++ with_braces (drop at old)
marked at [] d below = absurd (omega arith)
marked zero (o ∷ old) d below = refl
marked (suc at) (o ∷ old) d below = ap (λ ws. o ∷ ws) (marked at old d (omega arith))

counted : (at : ℕ) (old : List Word) (d : Word) → at < length old
    → closers_before (slice_index_or (take (suc at) old ++ with_braces (drop (suc at) old)) at d).token (closers (drop (suc at) old)) ≡ closers (drop at old)
counted at [] d below = absurd (omega arith)
counted zero (o ∷ old) d below = refl
counted (suc at) (o ∷ old) d below = counted at old d (omega arith)

-- for a list in which all from the place on are known, as those of it before the place are
pub marks : (at : ℕ) (old words : List Word) (d : Word) → 0 < at → at ≤ length old → words ≡ take at old ++ with_braces (drop at old)
    → slice_set words (at - 1) (closed_by (closers (drop at old)) (slice_index_or words (at - 1) d)) ≡ take (at - 1) old ++ with_braces (drop (at - 1) old)
marks zero old words d some within known = absurd (omega arith)
marks (suc at) old words d some within known = let e : suc at - 1 ≡ at = omega arith in rw (known, e) (marked at old d (omega arith))

pub counts : (at : ℕ) (old words : List Word) (d : Word) → 0 < at → at ≤ length old → words ≡ take at old ++ with_braces (drop at old)
    → closers_before (slice_index_or words (at - 1) d).token (closers (drop at old)) ≡ closers (drop (at - 1) old)
counts zero old words d some within known = absurd (omega arith)
counts (suc at) old words d some within known = let e : suc at - 1 ≡ at = omega arith in rw (known, e) (counted at old d (omega arith))

if_bound : (a b : Bool) (n : ℕ) → (if a then n - 1 else if b then n + 1 else n) ≤ n + 1
if_bound true b n = omega arith
if_bound false true n = omega arith
if_bound false false n = omega arith

pub one_more : (token : Token) (n : ℕ) → closers_before token n ≤ n + 1
one_more token n = if_bound (is_sign s.OpenBrace token) (is_sign s.CloseBrace token) n
