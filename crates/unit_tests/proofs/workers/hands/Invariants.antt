use Rattle.std.proofs.Common.{◌≡◌, vec_len}
use Rattle.unit_tests.proofs.workers.hands.Given as goal

abbrev pub invariant-loop-worker : goal.invariant-loop-worker
invariant-loop-worker g l = vec_len l.hands ≡ l.worker
