use Rattle.pfr_states.proofs.RefusalLemmas.{removed_fits}
use Rattle.pfr_states.proofs.table.Table.take_over.Goals as goal

pub returns-in-Removed-clause-allowed : goal.returns-in-Removed-clause-allowed
returns-in-Removed-clause-allowed c = rw c.in-Removed.is (removed_fits c.in-Removed.number c.args.self.now.limit c.args.self.now.states)
