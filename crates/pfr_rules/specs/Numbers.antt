-- Numbers in order.
use Rattle.std.specs.Prelude.{ℕ, zero, suc, ◌+◌, ◌-◌, ◌==◌, ◌&&◌, nat_lt, nat_le, Bool, List, [], ◌∷◌, ◌++◌}

-- as many numbers as the second argument says, from `first` on
abbrev pub numbers_from : ℕ → ℕ → List ℕ
numbers_from first zero = []
numbers_from first (suc n) = numbers_from first n ++ (first + n) ∷ []

-- the numbers below a bound
abbrev pub numbers_below : ℕ → List ℕ
numbers_below zero = []
numbers_below (suc n) = numbers_below n ++ n ∷ []

-- `number` follows `count` numbers from `first` on, and may still be counted
abbrev pub follows : ℕ → ℕ → ℕ → Bool
follows first count number = nat_lt count 18446744073709551615 && (nat_le first number && number - first == count)
