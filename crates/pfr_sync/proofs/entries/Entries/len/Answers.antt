use Rattle.pfr_sync.proofs.OrderLemmas.{count_is}
use Rattle.pfr_sync.proofs.entries.Entries.len.Goals as goal

pub returns : goal.returns
returns c =
    let s = c.self.inside in
    count_is s.slots.items s.order.items s.count c.args.self.now c.self.invariant c.self.view_is
