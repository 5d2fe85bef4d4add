use Rattle.pfr_states.proofs.AwaitedLemmas.{awaited_moved}
use Rattle.pfr_states.proofs.indexed.IndexedStates.settle.Goals as goal

pub invariant_of-self : goal.invariant_of-self
invariant_of-self c = awaited_moved c.self.inside.keyed c.self.inside.deadlines.waits c.advance.new.self.waits c.self.invariant c.advance.ensures
