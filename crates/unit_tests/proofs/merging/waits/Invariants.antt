use Rattle.std.proofs.Common.{◌≡◌, length}
use Rattle.unit_tests.proofs.merging.waits.Given as goal

-- there are as many sources as captures
abbrev pub invariant-loop-batch : goal.invariant-loop-batch
invariant-loop-batch l = (length l.merge ≡ 2) × (length l.sources ≡ 2)
