use Rattle.std.specs.List.{AllWithin}
use Rattle.pfr_index.specs.Searches as spec
use Rattle.pfr_index.proofs.search.search.Given as goal

abbrev pub invariant-loop-slot : goal.invariant-loop-slot
invariant-loop-slot g l = AllWithin (spec.IsOther (goal.F-post g l.is_it) l.hash) l.slots 0 l.slot-index
