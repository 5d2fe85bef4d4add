-- A new text one line after the other.
use Rattle.std.proofs.Common.{◌≡◌, ◌<◌, ℕ, zero, suc, ◌-◌, arith, ap}
use Rattle.pfr_phrases.specs.declared.applying.NewText.{NewText}
use Rattle.pfr_phrases.specs.Applying.{next_line, with_line, with_lines}

pub one_line : (made : NewText) (line count : ℕ) → 0 < count
    → with_lines (with_line made (next_line line)) (next_line line) (count - 1) ≡ with_lines made line count
one_line made line zero some = absurd (omega arith)
one_line made line (suc count) some =
    let less : suc count - 1 ≡ count = omega arith in
    ap (λ n. with_lines (with_line made (next_line line)) (next_line line) n) less
