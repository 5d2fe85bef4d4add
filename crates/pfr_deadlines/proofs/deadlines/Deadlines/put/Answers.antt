use Rattle.std.specs.BinaryHeap.{heap_items}
use Rattle.std.proofs.Common.{◌++◌, ◌∷◌, List, subst, sym}
use Rattle.std.specs.List.Sorted.{IsPermutation}
use Rattle.std.specs.declared.cmp.Reverse.{Reverse}
use Rattle.pfr_deadlines.specs.Waits.{Wait, waits_of}
use Rattle.pfr_deadlines.proofs.FirstLemmas.{added_far, added_near}
use Rattle.pfr_deadlines.proofs.deadlines.Deadlines.put.Goals as goal

pub returns-then-put : goal.returns-then-put
returns-then-put c = rw (← c.self.view_is) (added_far (record { 0 = c.args.wait }) (heap_items c.self.inside.near) c.self.inside.wheel.items c.put.new.self.items (c.put.ensures.done c.if-put.true))

pub returns : goal.returns
returns c =
    rw (← c.self.view_is) (subst (λ (far : List (Reverse Wait)). IsPermutation (c.args.wait ∷ waits_of (heap_items c.self.inside.near ++ c.self.inside.wheel.items)) (waits_of (heap_items c.push.new.self ++ far))) (sym (c.put.ensures.kept c.if-put.false))
    (added_near (record { 0 = c.args.wait }) (heap_items c.self.inside.near) c.self.inside.wheel.items (heap_items c.push.new.self) c.in-Ok.ensures.permutation))
