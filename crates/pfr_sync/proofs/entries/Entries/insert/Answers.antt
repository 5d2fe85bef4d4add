use Rattle.std.proofs.Common.{rules, arith, ◌≤◌, ◌<◌, length, ◌∙◌}
use Rattle.pfr_sync.specs.declared.queue.QueuedState.{QueuedState}
use Rattle.pfr_sync.proofs.OrderLemmas.{count_is, insert_at, slot_at}
use Rattle.pfr_sync.proofs.entries.Entries.insert.Goals as goal

pub overflow_add-place : goal.overflow_add-place
overflow_add-place c =
    let s = c.self.inside in
    let count = count_is s.slots.items s.order.items s.count c.args.self.now c.self.invariant c.self.view_is in
    let low : c.args.place < length c.make_room.new.order.items = omega (arith, c.requires, count, c.in_ok-make_room.ensures.free) in
    search (rules, low)

pub copy_within-requires-clause-start_le_end : goal.copy_within-requires-clause-start_le_end
copy_within-requires-clause-start_le_end c =
    let s = c.self.inside in
    let count = count_is s.slots.items s.order.items s.count c.args.self.now c.self.invariant c.self.view_is in
    omega (arith, c.requires, count)

pub copy_within-requires-clause-dest_in_bounds : goal.copy_within-requires-clause-dest_in_bounds
copy_within-requires-clause-dest_in_bounds c =
    let s = c.self.inside in
    let count = count_is s.slots.items s.order.items s.count c.args.self.now c.self.invariant c.self.view_is in
    let low : c.args.place ≤ s.count = omega (arith, c.requires, count) in
    search (rules, low, c.in_ok-make_room.ensures.free)

pub index_mut-requires : goal.index_mut-requires
index_mut-requires c =
    let s = c.self.inside in
    let count = count_is s.slots.items s.order.items s.count c.args.self.now c.self.invariant c.self.view_is in
    let low : c.args.place < length c.make_room.new.order.items = omega (arith, c.requires, count, c.in_ok-make_room.ensures.free) in
    search (rules, low)

pub index_mut-entry-requires : goal.index_mut-entry-requires
index_mut-entry-requires c =
    let new = c.make_room.new in
    let room = c.in_ok-make_room.ensures in
    let within : c.index-slot.result.now < length new.slots.items = slot_at (length new.slots.items) new.order.items c.self.inside.count c.index-slot.result.now room.slots room.free c.index-slot.ensures in
    search (rules, within)

pub invariant_of-self-2 : goal.invariant_of-self-2
invariant_of-self-2 c =
    let s = c.self.inside in
    let new = c.make_room.new in
    let room = c.in_ok-make_room.ensures in
    let entry : QueuedState = record { state = c.args.state.now; action = c.args.action } in
    let inserted = insert_at new.slots.items new.order.items s.count c.args.place c.index-slot.result.now entry c.args.self.now c.copy_within.new.self.items room.slots room.free (room.entries ∙ c.self.view_is) c.requires c.index-slot.ensures c.copy_within.ensures.items in
    (inserted.are_slots, inserted.count)

pub returns-clause-entries : goal.returns-clause-entries
returns-clause-entries c =
    let s = c.self.inside in
    let new = c.make_room.new in
    let room = c.in_ok-make_room.ensures in
    let entry : QueuedState = record { state = c.args.state.now; action = c.args.action } in
    let inserted = insert_at new.slots.items new.order.items s.count c.args.place c.index-slot.result.now entry c.args.self.now c.copy_within.new.self.items room.slots room.free (room.entries ∙ c.self.view_is) c.requires c.index-slot.ensures c.copy_within.ensures.items in
    inserted.is
