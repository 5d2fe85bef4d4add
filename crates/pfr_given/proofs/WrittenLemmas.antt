-- How many addresses a network has at most.
use Rattle.std.proofs.Common.{ℕ, ◌<◌, ◌≤◌, ◌^◌, arith}
use Rattle.std.proofs.Math.Nat.{pow-le-pow_right}

pub within : (n : ℕ) → n ≤ 32 → 2 ^ n ≤ 4294967296
within n low =
    let some : 0 < 2 = omega arith in
    pow-le-pow_right some low
