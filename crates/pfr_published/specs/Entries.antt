-- The entries of a list.
use Rattle.std.specs.Prelude.{ℕ, List, take, drop}

-- the entry at a place, as a list of one
abbrev pub entry_at : {X : Type 0} → List X → ℕ → List X
entry_at entries place = take 1 (drop place entries)
