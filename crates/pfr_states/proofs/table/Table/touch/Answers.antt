use Rattle.pfr_states.proofs.RefusalLemmas.{touched_fits}
use Rattle.pfr_states.proofs.TouchLemmas.{table_touched}
use Rattle.pfr_states.proofs.table.Table.touch.Goals as goal

pub invariant_of-self-then-branch : goal.invariant_of-self-then-branch
invariant_of-self-then-branch c =
    rw (c.in_ok-renew.ensures.done c.if-branch.true) (table_touched c.args.state.now c.self.inside.states c.self.inside.limit (c.in_ok-renew.ensures.free c.if-branch.true) c.self.invariant)

pub returns-then-branch-clause-allowed : goal.returns-then-branch-clause-allowed
returns-then-branch-clause-allowed c = rw (← c.self.view_is) (touched_fits c.args.state.now c.self.inside.limit c.self.inside.states (c.in_ok-renew.ensures.free c.if-branch.true))
