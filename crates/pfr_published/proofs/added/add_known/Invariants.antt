use Rattle.std.proofs.Common.{◌≡◌, ◌++◌, take}
use Rattle.pfr_published.proofs.added.add_known.Given as goal

abbrev pub invariant-loop-change : goal.invariant-loop-change
invariant-loop-change g l = record { front : l.front ≡ l.fn.front ++ take l.change-index l.changes }
