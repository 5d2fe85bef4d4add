-- Prefixes of prefixes.
use Rattle.std.proofs.Common.{◌≡◌, ◌-◌, ◌*◌, ◌/◌, ◌^◌, ℕ, min, refl, ap, arith}
use Rattle.std.proofs.Math.Nat.{mul-div_cancel}
use Rattle.std.proofs.lemmas.Nat.{pow_pos}
use Rattle.pfr_net.specs.Networks.{prefix}

pub prefix-prefix : (bits address : ℕ) → prefix bits (prefix bits address) ≡ prefix bits address
unfolding prefix
prefix-prefix bits address =
    let size = 2 ^ (32 - bits) in
    ap (λ n. n * size) (mul-div_cancel (address / size) {n = size} (pow_pos (32 - bits)))

pub prefix-min : (bits address : ℕ) → prefix (min bits 32) address ≡ prefix bits address
unfolding prefix
prefix-min bits address = let e : 32 - min bits 32 ≡ 32 - bits = omega arith in rw e refl
