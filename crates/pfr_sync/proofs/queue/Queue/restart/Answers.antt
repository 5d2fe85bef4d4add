use Rattle.pfr_sync.proofs.CountLemmas.{keeps_one}
use Rattle.pfr_sync.proofs.queue.Queue.restart.Goals as goal

pub invariant_of-self : goal.invariant_of-self
invariant_of-self c = keeps_one c.self.inside.origin c.self.inside.entries c.begun-action.result c.args.state.now _ _ c.self.invariant.0 c.start.ensures c.one_of-self-inside.ensures.counts
