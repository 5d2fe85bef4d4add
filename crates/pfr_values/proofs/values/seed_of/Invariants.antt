use Rattle.std.proofs.Common.{◌≡◌, ◌<◌, ℕ, length, slice_index}
use Rattle.pfr_values.specs.Seeds.{byte_at}
use Rattle.pfr_values.proofs.values.seed_of.Given as goal

abbrev pub invariant-loop-place : goal.invariant-loop-place
invariant-loop-place l = (length l.seed ≡ 32) × ((i : ℕ) → i < l.place → slice_index l.seed i ≡ byte_at l.fn.digits i)
