use Rattle.std.proofs.Common.{◌++◌}
use Rattle.std.specs.BinaryHeap.{heap_items}
use Rattle.std.specs.declared.cmp.Reverse.{Reverse}
use Rattle.std.proofs.lemmas.List.Sorted.{IsPermutation-map}
use Rattle.pfr_deadlines.specs.Waits.{Wait}
use Rattle.pfr_deadlines.proofs.deadlines.Deadlines.advance.Goals as goal

pub returns-then-not-are_ahead_of : goal.returns-then-not-are_ahead_of
returns-then-not-are_ahead_of c = rw (← c.self.view_is) (IsPermutation-map (λ (wait : Reverse Wait). wait.0) (heap_items c.self.inside.near ++ c.self.inside.wheel.items) (heap_items c.advance.new.near ++ c.advance.new.self.items) c.advance.ensures.same)
