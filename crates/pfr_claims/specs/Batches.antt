-- What batches and passes are to those who call.
use Rattle.std.specs.Prelude.{ℕ, List, map}
use Rattle.atomic_table.specs.Seated.{TableId}
use Rattle.pfr_claims.specs.declared.rule.Sizes.{Sizes}

-- a batch: its word and its sizes
pub record Batch : Type 0 where
  pub table : TableId
  pub sizes : Sizes

-- a pass: its batch, and the numbers that were drawn with it, in the order in which they were
pub record Held : Type 0 where
  pub batch : Batch
  pub drawn : List ℕ

abbrev pub batch_of : TableId → Sizes → Batch
batch_of table sizes = record { table = table; sizes = sizes }

abbrev pub held : Batch → List ℕ → Held
held batch drawn = record { batch = batch; drawn = drawn }

-- what each of some passes drew
abbrev pub lists_of : List Held → List (List ℕ)
lists_of passes = map (λ pass. pass.drawn) passes
