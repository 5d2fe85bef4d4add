-- What counts for the lines of a ruleset's file.
use Rattle.std.specs.Prelude.{ℕ, zero, suc, ◌==◌, Bool, true, false, if◌then◌else◌, List, [], ◌∷◌, Option, Some, None}
use Rattle.pfr_report.specs.Counts.{with_one}
use Rattle.pfr_report.specs.declared.lines.Line.{Line}

-- for the line at a place one packet more counts
abbrev pub counted_at : (place bytes : ℕ) → List Line → List Line
counted_at place bytes [] = []
counted_at zero bytes (line ∷ lines) = (record line { count = with_one bytes line.count }) ∷ lines
counted_at (suc place) bytes (line ∷ lines) = line ∷ counted_at place bytes lines

-- for the line of a rule, if there is one
abbrev pub counted : (line : Option ℕ) (bytes : ℕ) → List Line → List Line
counted None bytes lines = lines
counted (Some place) bytes lines = counted_at place bytes lines

-- two rules stand on one line, or neither on any
abbrev pub are_same : (line other : Option ℕ) → Bool
are_same None None = true
are_same None (Some other) = false
are_same (Some line) None = false
are_same (Some line) (Some other) = line == other

-- a packet counts for the lines of its filter rule and its translation rule, and once if both stand on one
abbrev pub counted_for : (filter translation : Option ℕ) (bytes : ℕ) → List Line → List Line
counted_for filter translation bytes lines =
    if are_same filter translation then counted filter bytes lines else counted translation bytes (counted filter bytes lines)
