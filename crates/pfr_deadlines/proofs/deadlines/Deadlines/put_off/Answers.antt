use Rattle.std.proofs.Common.{◌++◌, arith}
use Rattle.std.specs.BinaryHeap.{heap_items}
use Rattle.pfr_deadlines.specs.Waits.{IsPutOff, waits_of}
use Rattle.pfr_deadlines.proofs.FirstLemmas.{head_near, none_there, taken_near, where_below, where_none}
use Rattle.pfr_deadlines.proofs.deadlines.Deadlines.put_off.Goals as goal

pub returns-in_default : goal.returns-in_default
returns-in_default c = rw (← c.self.view_is) (where_none c.self.inside.wheel.bound (waits_of (heap_items c.self.inside.near ++ c.self.inside.wheel.items)) _ (none_there c.self.inside.wheel.bound (heap_items c.self.inside.near) c.self.inside.wheel.items (omega (arith, c.in_default.ensures.none)) c.bound.ensures.from))

pub returns : goal.returns
returns c =
    let near = heap_items c.self.inside.near in
    let far = c.self.inside.wheel.items in
    rw (← c.self.view_is) (where_below c.self.inside.wheel.bound (waits_of (near ++ far)) c.in-Some.first.0 (λ first. IsPutOff first c.args.own (waits_of (near ++ far)) c.put.new.self.waits)
    (head_near near far c.in-Some.first (omega (arith, c.in-Some.ensures.len)) c.in-Some.ensures.top)
    (record { rest = waits_of (heap_items c.pop.new.self ++ far); before = taken_near c.in-Some.first near far (heap_items c.pop.new.self) c.in-Some.ensures.permutation; after = c.put.ensures }))
