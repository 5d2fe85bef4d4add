-- Where statements begin.
use Rattle.std.specs.Prelude.{ℕ, ◌+◌, ◌-◌, ◌^◌, ◌==◌, ◌&&◌, Bool, true, if◌then◌else◌, min, List, [], ◌∷◌, codes}
use Rattle.pfr_marks.specs.declared.mark.Mark.{Mark}
use Rattle.pfr_marks.specs.Marks.{is}
use Rattle.pfr_include.specs.declared.position.Position.{Position}

-- no mark of the line is left
abbrev pub ends_line : List Mark → Bool
ends_line [] = true
ends_line (mark ∷ marks) = is (codes "\n") mark

-- how many braces are open behind a mark
abbrev pub depth_behind : ℕ → Mark → ℕ
depth_behind depth mark =
    if is (codes "{") mark then min (depth + 1) (2 ^ 64 - 1)
    else if is (codes "}") mark then depth - 1
    else depth

-- at the beginning of a text
abbrev pub first : Position
first = record { begins = true; depth = 0 }

-- a statement begins at the beginning of a line, outside of braces
abbrev pub begins_statement : Position → Bool
begins_statement position = position.begins && position.depth == 0

abbrev pub position_behind : Position → List Mark → Position
position_behind position [] = position
position_behind position (mark ∷ marks) = record { begins = is (codes "\n") mark; depth = depth_behind position.depth mark }
