use Rattle.std.proofs.Common.{◌≡◌}
use Rattle.pfr_merge.proofs.merge.Merge.begin_batch.Given as goal

abbrev pub invariant-loop-place : goal.invariant-loop-place
invariant-loop-place l = l.self-inside.inputs.items ≡ l.fn.self
