-- How often rules were evaluated, as it is kept: for each rule how often it was evaluated alone, and how many runs of
-- rules begin with it and end before it.
use Rattle.std.specs.Prelude.{ℕ, ◌+◌, ◌-◌, ◌^◌, ◌≤◌, min, List, [], ◌∷◌, ⊤}
use Rattle.pfr_rules.specs.declared.evaluations.Tally.{Tally}

-- the runs that go on at a rule: those from before it, and those that begin with it, without those that end before it
abbrev pub runs_at : ℕ → Tally → ℕ
runs_at runs tally = runs + tally.begun - tally.ended

-- how often each rule was evaluated: alone, and in the runs that go on at it
abbrev pub counts_from : ℕ → List Tally → List ℕ
counts_from runs [] = []
counts_from runs (tally ∷ tallies) = min (tally.alone + runs_at runs tally) (2 ^ 64 - 1) ∷ counts_from (runs_at runs tally) tallies

-- no run ends that doesn't go on
abbrev pub Balances : ℕ → List Tally → Type 0
Balances runs [] = ⊤
Balances runs (tally ∷ tallies) = (tally.ended ≤ runs + tally.begun) × Balances (runs_at runs tally) tallies
