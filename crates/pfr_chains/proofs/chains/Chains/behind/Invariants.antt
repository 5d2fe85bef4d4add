use Rattle.std.proofs.Common.{◌-◌, ◌≤◌, ℕ}
use Rattle.pfr_chains.specs.Chains as spec
use Rattle.pfr_chains.proofs.chains.Chains.behind.Given as goal

abbrev pub invariant-loop-to : goal.invariant-loop-to
invariant-loop-to l = (key low : ℕ) → low ≤ l.from → spec.IsNext l.self key low l.place → spec.IsOn l.self key l.from l.to

abbrev pub decreases-loop-to : goal.decreases-loop-to
decreases-loop-to l = l.from - l.to
