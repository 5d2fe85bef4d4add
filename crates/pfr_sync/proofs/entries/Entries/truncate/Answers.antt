use Rattle.std.proofs.Common.{arith}
use Rattle.pfr_sync.proofs.OrderLemmas.{count_is, cut_first}
use Rattle.pfr_sync.proofs.entries.Entries.truncate.Goals as goal

pub invariant_of-self : goal.invariant_of-self
invariant_of-self c =
    let s = c.self.inside in
    let count = count_is s.slots.items s.order.items s.count c.args.self.now c.self.invariant c.self.view_is in
    (c.self.invariant.0, omega (arith, c.self.invariant.1, c.requires, count))

pub returns : goal.returns
returns c =
    let s = c.self.inside in
    cut_first s.slots.items s.order.items s.count c.args.place c.args.self.now c.self.invariant c.self.view_is c.requires
