-- Powers of two that windows are scaled by.
use Rattle.std.proofs.Common.{ℕ, ◌*◌, ◌%◌, ◌^◌, ◌≤◌, arith}
use Rattle.std.proofs.Math.Pow.{pow_mono}

-- a shift of at most 14 leaves a factor of at most 2^14
pub factor_is_small : (n : ℕ) → n ≤ 14 → 1 * 2 ^ n % 65536 ≤ 16384
factor_is_small n p =
    let q : 2 ^ n ≤ 2 ^ 14 = pow_mono p in
    omega (arith, q)
