-- What counts for a line, as an element of a list.
use Rattle.std.proofs.Common.{◌≡◌, ◌<◌, ◌≤◌, ℕ, zero, suc, List, [], ◌∷◌, length, slice_set, slice_index_or, refl, ap, arith}
use Rattle.pfr_report.specs.Counts.{with_one}
use Rattle.pfr_report.specs.Lines.{counted_at}
use Rattle.pfr_report.specs.declared.lines.Line.{Line}

pub counted_there : (place bytes : ℕ) (lines : List Line) (d : Line) → place < length lines
    → slice_set lines place (record (slice_index_or lines place d) { count = with_one bytes (slice_index_or lines place d).count }) ≡ counted_at place bytes lines
counted_there place bytes [] d within = absurd (omega (arith, within))
counted_there zero bytes (line ∷ lines) d within = refl
counted_there (suc place) bytes (line ∷ lines) d within = ap (λ l. line ∷ l) (counted_there place bytes lines d (omega (arith, within)))

pub counted_nowhere : (place bytes : ℕ) (lines : List Line) → length lines ≤ place → lines ≡ counted_at place bytes lines
counted_nowhere place bytes [] behind = refl
counted_nowhere zero bytes (line ∷ lines) behind = absurd (omega (arith, behind))
counted_nowhere (suc place) bytes (line ∷ lines) behind = ap (λ l. line ∷ l) (counted_nowhere place bytes lines (omega (arith, behind)))
