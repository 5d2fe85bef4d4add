use Rattle.std.proofs.Common.{◌≡◌, ◌++◌, drop, map}
use Rattle.pfr_spelling.proofs.replacing.reasons_of.Given as goal

abbrev pub invariant-loop-change : goal.invariant-loop-change
invariant-loop-change l = l.reasons ++ map (λ change. change.finding.reason) (drop l.change-index l.changes) ≡ map (λ change. change.finding.reason) l.changes
