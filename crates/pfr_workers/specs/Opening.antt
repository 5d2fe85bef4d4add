-- The history of the batches that were opened.
use Rattle.std.specs.Prelude.{◌≡◌, ℕ, List, Some, map}
use Rattle.std.specs.List.{slice_get}
use Rattle.std.specs.Option.{option_map}
use Rattle.pfr_claims.specs.Batches.{Batch}
use Rattle.pfr_workers.specs.declared.opening.OpenedClaims.{OpenedClaims}

-- the claims of the batches of a history, in order
abbrev pub claims_of : List OpenedClaims → List Batch
claims_of opened = map (λ it. it.claims.value) opened

-- the history has this batch at this number
abbrev pub IsNumbered : List OpenedClaims → ℕ → Batch → Type 0
IsNumbered opened number batch = option_map (λ it. it.claims.value) (slice_get opened number) ≡ Some batch
