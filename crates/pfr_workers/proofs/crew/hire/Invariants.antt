use Rattle.std.proofs.Common.{◌≡◌, ◌+◌, vec_len}
use Rattle.pfr_workers.proofs.crew.hire.Given as goal

abbrev pub invariant-loop-hand : goal.invariant-loop-hand
invariant-loop-hand g l = vec_len l.desks + vec_len l.hands ≡ vec_len l.fn.hands

abbrev pub decreases-loop-hand : goal.decreases-loop-hand
decreases-loop-hand g l = vec_len l.hands
