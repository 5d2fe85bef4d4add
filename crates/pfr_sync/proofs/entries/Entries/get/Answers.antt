use Rattle.std.proofs.Common.{rules, arith, ◌<◌, length}
use Rattle.pfr_sync.proofs.OrderLemmas.{count_is, slot_at, read_first}
use Rattle.pfr_sync.proofs.entries.Entries.get.Goals as goal

pub index-slot-requires : goal.index-slot-requires
index-slot-requires c =
    let s = c.self.inside in
    let count = count_is s.slots.items s.order.items s.count c.args.self.now c.self.invariant c.self.view_is in
    let low : c.args.place < length s.order.items = omega (arith, c.self.invariant.1, c.requires, count) in
    search (rules, low)

pub index-requires : goal.index-requires
index-requires c =
    let s = c.self.inside in
    let count = count_is s.slots.items s.order.items s.count c.args.self.now c.self.invariant c.self.view_is in
    let low : c.args.place < length s.order.items = omega (arith, c.self.invariant.1, c.requires, count) in
    let within : c.index-slot.result.now < length s.slots.items = slot_at (length s.slots.items) s.order.items c.args.place c.index-slot.result.now c.self.invariant.0 low c.index-slot.ensures in
    search (rules, within)

pub returns : goal.returns
returns c =
    let s = c.self.inside in
    read_first s.slots.items s.order.items s.count c.args.place c.index-slot.result.now c.index.result.now c.args.self.now c.self.invariant c.self.view_is c.requires c.index-slot.ensures c.index.ensures
