use Rattle.pfr_sync.proofs.PartLemmas.{closes_last, closes_later}
use Rattle.pfr_sync.proofs.queue.Queue.close.Goals as goal

pub returns-clause-later : goal.returns-clause-later
returns-clause-later c =
    let s = c.self.inside in
    let message = c.in_ok-message.ensures in
    rw (← c.self.view_is) (closes_later s.origin s.clock s.entries c.args.clock _ _ c.truncate.ensures message)

pub returns-clause-last : goal.returns-clause-last
returns-clause-last c =
    let s = c.self.inside in
    let message = c.in_ok-message.ensures in
    rw (← c.self.view_is) (closes_last s.origin s.clock s.entries c.args.clock _ message)
