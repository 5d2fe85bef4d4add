-- Counts of rules, one for each place.
use Rattle.std.specs.Prelude.{ℕ, ◌+◌, ◌-◌, ◌^◌, min, List, get_or, slice_set}

-- more at a place; a count stays at the last value that 64 bits hold, and a place without a count has none
unfoldable pub added : List ℕ → ℕ → ℕ → List ℕ
added counts place amount = slice_set counts place (min (get_or counts place 0 + amount) (2 ^ 64 - 1))

-- one more at a place
abbrev pub raised : List ℕ → ℕ → List ℕ
raised counts place = added counts place 1
