use Rattle.std.proofs.Common.{◌≡◌, vec_len}
use Rattle.pfr_work.proofs.evaluator.evaluators.Given as goal

abbrev pub invariant-loop-worker : goal.invariant-loop-worker
invariant-loop-worker g l = vec_len l.evaluators ≡ l._worker
