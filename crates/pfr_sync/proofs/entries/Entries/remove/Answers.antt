use Rattle.std.proofs.Common.{rules, arith, ◌<◌, length}
use Rattle.pfr_sync.proofs.OrderLemmas.{count_is, remove_at}
use Rattle.pfr_sync.proofs.entries.Entries.remove.Goals as goal

pub index-slot-requires : goal.index-slot-requires
index-slot-requires c =
    let s = c.self.inside in
    let count = count_is s.slots.items s.order.items s.count c.args.self.now c.self.invariant c.self.view_is in
    let low : c.args.place < length s.order.items = omega (arith, c.self.invariant.1, c.requires, count) in
    search (rules, low)

pub overflow_add-place : goal.overflow_add-place
overflow_add-place c =
    let s = c.self.inside in
    let count = count_is s.slots.items s.order.items s.count c.args.self.now c.self.invariant c.self.view_is in
    let low : c.args.place < s.count = omega (arith, c.requires, count) in
    search (rules, low)

pub copy_within-requires-clause-start_le_end : goal.copy_within-requires-clause-start_le_end
copy_within-requires-clause-start_le_end c =
    let s = c.self.inside in
    let count = count_is s.slots.items s.order.items s.count c.args.self.now c.self.invariant c.self.view_is in
    omega (arith, c.requires, count)

pub copy_within-requires-clause-dest_in_bounds : goal.copy_within-requires-clause-dest_in_bounds
copy_within-requires-clause-dest_in_bounds c =
    let s = c.self.inside in
    let count = count_is s.slots.items s.order.items s.count c.args.self.now c.self.invariant c.self.view_is in
    let low : c.args.place < s.count = omega (arith, c.requires, count) in
    search (rules, low, c.self.invariant.1)

pub invariant_of-self : goal.invariant_of-self
invariant_of-self c =
    let s = c.self.inside in
    let removed = remove_at s.slots.items s.order.items s.count c.args.place c.index-slot.result.now c.args.self.now c.copy_within.new.self.items c.self.invariant c.self.view_is c.requires c.index-slot.ensures c.copy_within.ensures.items in
    (removed.are_slots, removed.count)

pub returns : goal.returns
returns c =
    let s = c.self.inside in
    let removed = remove_at s.slots.items s.order.items s.count c.args.place c.index-slot.result.now c.args.self.now c.copy_within.new.self.items c.self.invariant c.self.view_is c.requires c.index-slot.ensures c.copy_within.ensures.items in
    removed.is
