use Rattle.pfr_states.specs.States.{lives}
use Rattle.pfr_states.proofs.FilterLemmas.{table_filter}
use Rattle.pfr_states.proofs.table.Table.purge.Goals as goal

pub invariant_of-self : goal.invariant_of-self
invariant_of-self c = rw c.purge.ensures (table_filter (lives c.args.clock) c.self.inside.states c.self.inside.limit c.self.invariant)
