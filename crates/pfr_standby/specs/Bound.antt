-- The greatest number that was ever inserted.
use Rattle.std.specs.Prelude.{◌≡◌, ℕ, ◌<◌, List, fold, max, None}
use Rattle.pfr_messages.specs.declared.records.Insertion.{Insertion}
use Rattle.pfr_standby.specs.Standby.{Standing, state_of}

-- no state is held above a number
abbrev pub NoneAbove : ℕ → Standing → Type 0
NoneAbove n standing = (m : ℕ) → n < m → state_of m standing ≡ None

-- the greatest of a number and the numbers of insertions
abbrev pub greatest_of : ℕ → List Insertion → ℕ
greatest_of n rs = fold (λ greatest r. max greatest r.number.0) n rs
