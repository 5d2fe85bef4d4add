use Rattle.std.proofs.Common.{◌≡◌, take}
use Rattle.pfr_published.proofs.added.known.Given as goal

abbrev pub invariant-loop-change : goal.invariant-loop-change
invariant-loop-change l = record { same : l.known.items ≡ take l.change-index l.changes }
