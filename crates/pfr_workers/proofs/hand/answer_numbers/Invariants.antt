use Rattle.std.proofs.Common.{◌≡◌, ◌-◌}
use Rattle.pfr_claims.proofs.Sums.{bound_of}
use Rattle.pfr_workers.proofs.hand.answer_numbers.Given as goal

abbrev pub invariant-draws : goal.invariant-draws
invariant-draws g l = record { live : l.live.batch ≡ l.claims; begun : g.H.Hand.begun l.hand l.batch }

-- how far the pass has still to come
abbrev pub decreases-draws : goal.decreases-draws
decreases-draws g l = l.claims.sizes.count - bound_of l.live.drawn
