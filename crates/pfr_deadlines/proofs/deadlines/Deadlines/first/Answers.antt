use Rattle.std.proofs.Common.{◌++◌, arith, sym}
use Rattle.std.specs.BinaryHeap.{heap_items}
use Rattle.pfr_deadlines.specs.Waits.{waits_of}
use Rattle.pfr_deadlines.proofs.FirstLemmas.{all_from, first_of_both, none_below, none_there}
use Rattle.pfr_deadlines.proofs.deadlines.Deadlines.first.Goals as goal

pub returns-in_default-clause-below : goal.returns-in_default-clause-below
returns-in_default-clause-below c =
    rw (← c.self.view_is) (sym (none_below c.self.inside.wheel.bound (waits_of (heap_items c.self.inside.near ++ c.self.inside.wheel.items)) (none_there c.self.inside.wheel.bound (heap_items c.self.inside.near) c.self.inside.wheel.items (omega (arith, c.in_default.ensures.item)) c.bound-bound.ensures.from)))

pub returns-in_default-clause-none : goal.returns-in_default-clause-none
returns-in_default-clause-none c = rw (← c.self.view_is) (none_there c.self.inside.wheel.bound (heap_items c.self.inside.near) c.self.inside.wheel.items (omega (arith, c.in_default.ensures.item)) c.bound-bound.ensures.from)

pub returns-then-first-bound-clause-first : goal.returns-then-first-bound-clause-first
returns-then-first-bound-clause-first c =
    rw (← c.self.view_is) (first_of_both c.self.inside.wheel.bound (heap_items c.self.inside.near) c.self.inside.wheel.items c.in-Some.first.now (c.in-Some.ensures.greatest c.self.invariant) (omega (arith, c.if-first-bound.true, c.bound-bound.ensures.bound)) c.bound-bound.ensures.from)

pub returns-else-first-bound-clause-none : goal.returns-else-first-bound-clause-none
returns-else-first-bound-clause-none c =
    rw (← c.self.view_is) (all_from c.self.inside.wheel.bound (heap_items c.self.inside.near) c.self.inside.wheel.items c.in-Some.first.now (c.in-Some.ensures.greatest c.self.invariant) (omega (arith, c.if-first-bound.false, c.bound-bound.ensures.bound)) c.bound-bound.ensures.from)
