use Rattle.pfr_index.proofs.FoldLemmas.{HasPassed}
use Rattle.pfr_index.proofs.folding.fold.Given as goal

abbrev pub invariant-loop-slot : goal.invariant-loop-slot
invariant-loop-slot g l = goal.F-IsAlwaysCallable g l.step × HasPassed (λ before place after. goal.F-post g l.step before place after) l.fn.start l.hash l.slots l.slot-index l.last
