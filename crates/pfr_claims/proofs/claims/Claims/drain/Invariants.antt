use Rattle.std.proofs.Common.{◌≡◌, ℕ, ◌-◌, ◌++◌, List}
use Rattle.pfr_claims.proofs.Sums.{bound_of}
use Rattle.pfr_claims.proofs.claims.Claims.drain.Given as goal

abbrev pub invariant-draws : goal.invariant-draws
invariant-draws l = record { batch : l.live.batch ≡ l.self; drawn : (rest : List ℕ) × (l.live.drawn ≡ l.fn.pass.drawn ++ rest) }

abbrev pub decreases-draws : goal.decreases-draws
decreases-draws l = l.self.sizes.count - bound_of l.live.drawn
