-- What a claim gives.
use Rattle.std.specs.Prelude.{◌≡◌, ℕ, ◌+◌, ◌<◌, ◌≤◌, ◌^◌, List, [], ◌∷◌, ◌++◌}
use Rattle.std.specs.List.{All}
use Rattle.pfr_claims.specs.Batches.{Batch, held}
use Rattle.pfr_claims.specs.declared.passes.Claim.{Claim}
use Rattle.pfr_claims.specs.declared.passes.Claim.TheVariants.{Number, Ended}

-- the pass's list grows at its end by the number drawn, which is above all that it held; the pass ends exactly if that
-- number is at or above the count
abbrev pub Claimed : Batch → List ℕ → Claim → Type 0
Claimed batch drawn (Number number pass) =
    (number < batch.sizes.count) × (number + 1 < 2 ^ 64) × All (λ earlier. earlier < number) drawn × (pass ≡ held batch (drawn ++ number ∷ []))
Claimed batch drawn (Ended pass) =
    (number : ℕ) × (batch.sizes.count ≤ number) × All (λ earlier. earlier < number) drawn × (pass ≡ held batch (drawn ++ number ∷ []))
