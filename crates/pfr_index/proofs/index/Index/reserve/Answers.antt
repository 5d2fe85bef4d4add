-- If a slot is free, not all are held.
use Rattle.std.proofs.Common.{arith}
use Rattle.pfr_index.proofs.CountLemmas.{held_and_free}
use Rattle.pfr_index.proofs.index.Index.reserve.Goals as goal

pub returns-then-self-len-clause-room : goal.returns-then-self-len-clause-room
returns-then-self-len-clause-room c = rw (← c.self.view_is) (omega (arith, c.if-self-len.true, c.self.invariant.free_is, held_and_free c.self.inside.slots.items))
