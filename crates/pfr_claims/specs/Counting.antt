-- How often numbers stand in lists.
use Rattle.std.specs.Prelude.{ℕ, ◌+◌, ◌-◌, ◌==◌, min, if◌then◌else◌, List, [], ◌∷◌}

-- how often a number stands in a list
abbrev pub times : ℕ → List ℕ → ℕ
times number [] = 0
times number (other ∷ others) = (if other == number then 1 else 0) + times number others

-- once if the number is below the bound, and else never
abbrev pub once_below : ℕ → ℕ → ℕ
once_below number bound = min 1 (bound - number)
