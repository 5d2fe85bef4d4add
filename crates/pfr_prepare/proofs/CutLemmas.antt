-- The parts of a word, as `split_once` finds them.
use Rattle.std.proofs.Common.{◌≡◌, ◌==◌, ◌<◌, ℕ, Bool, true, false, cond, List, length, Option, Some, None, option_map, MatchOption, nat_lt, sym, ap, ap₂, ◌∙◌, arith}
use Rattle.std.specs.List.{before_first, after_first, position_or_len}
use denote.Ref.{Bor}
use Rattle.pfr_net.specs.Notation.{cut_at, parts_at}

is_not_below : (m n : ℕ) → m ≡ n → nat_lt m n ≡ false
is_not_below m n same = grind arith

is_below : (m n : ℕ) → m < n → nat_lt m n ≡ true
is_below m n below = grind arith

abbrev place_of : ℕ → List ℕ → ℕ
place_of byte word = position_or_len (λ b. b == byte) word

abbrev cut_if : ℕ → Bool → List ℕ → Option (List ℕ × List ℕ)
cut_if byte there word = parts_at (cond there (Some (place_of byte word)) None) word

pub cut_is : (byte : ℕ) (word : List ℕ) (parts : Option (Bor (List ℕ) × Bor (List ℕ)))
    → MatchOption parts (place_of byte word ≡ length word)
    (λ p. (p.0.now ≡ before_first (λ b. b == byte) word) × (p.1.now ≡ after_first (λ b. b == byte) word) × (place_of byte word < length word))
    → option_map (λ p. (p.0.now, p.1.now)) parts ≡ cut_at byte word
unfolding cut_at
cut_is byte word None none = ap (λ there. cut_if byte there word) (sym (is_not_below (place_of byte word) (length word) none))
cut_is byte word (Some p) found =
    ap₂ (λ front back. Some (front, back)) found.0 found.1
    ∙ ap (λ there. cut_if byte there word) (sym (is_below (place_of byte word) (length word) found.2))
