use Rattle.pfr_standby.proofs.HeldLemmas.{rises_sorted}
use Rattle.pfr_standby.proofs.standby.Standby.states.Goals as goal

pub returns-clause-rising : goal.returns-clause-rising
returns-clause-rising c = rw (← c.self.view_is) (rises_sorted c.self.inside.states.entries c.len.ensures.ordered)
