use Rattle.std.proofs.Common.{◌++◌, ◌∷◌, arith}
use Rattle.std.specs.BinaryHeap.{heap_items}
use Rattle.std.specs.List.Sorted.{IsPermutation}
use Rattle.pfr_deadlines.specs.Waits.{waits_of}
use Rattle.pfr_deadlines.proofs.FirstLemmas.{head_near, none_there, taken_near, where_below, where_none}
use Rattle.pfr_deadlines.proofs.deadlines.Deadlines.drop_first.Goals as goal

pub returns-in_default : goal.returns-in_default
returns-in_default c = rw (← c.self.view_is) (where_none c.self.inside.wheel.bound (waits_of (heap_items c.self.inside.near ++ c.self.inside.wheel.items)) _ (none_there c.self.inside.wheel.bound (heap_items c.self.inside.near) c.self.inside.wheel.items (omega (arith, c.in_default.ensures.none)) c.bound.ensures.from))

pub returns : goal.returns
returns c =
    let near = heap_items c.self.inside.near in
    let far = c.self.inside.wheel.items in
    rw (← c.self.view_is) (where_below c.self.inside.wheel.bound (waits_of (near ++ far)) c.in-Some._first.0 (λ first. IsPermutation (waits_of (near ++ far)) (first ∷ waits_of (heap_items c.pop.new.self ++ far)))
    (head_near near far c.in-Some._first (omega (arith, c.in-Some.ensures.len)) c.in-Some.ensures.top) (taken_near c.in-Some._first near far (heap_items c.pop.new.self) c.in-Some.ensures.permutation))
