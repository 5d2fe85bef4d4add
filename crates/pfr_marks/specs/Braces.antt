-- Whether the braces of a text are closed.
use Rattle.std.specs.Prelude.{ℕ, ◌+◌, ◌-◌, ◌^◌, ◌==◌, Bool, false, not, if◌then◌else◌, min, List, [], ◌∷◌, codes, Option, Some, None}
use Rattle.pfr_marks.specs.declared.mark.Mark.{Mark}
use Rattle.pfr_marks.specs.Marks.{is}

-- how many braces are open behind a mark; none if it closes one that isn't open
abbrev pub open_behind : ℕ → Mark → Option ℕ
open_behind before mark =
    if is (codes "{") mark then Some (min (before + 1) (2 ^ 64 - 1))
    else if not (is (codes "}") mark) then Some before
    else if before == 0 then None
    else Some (before - 1)

abbrev pub closes : ℕ → List Mark → Bool
closes before [] = before == 0
closes before (mark ∷ marks) = elim (open_behind before mark) [
  | Some behind ↦ closes behind marks
  | None ↦ false
]

-- each brace is closed, and each closes one
unfoldable pub are_closed : List Mark → Bool
are_closed marks = closes 0 marks
