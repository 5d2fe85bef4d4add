use Rattle.std.proofs.Common.{◌∙◌, sym}
use Rattle.pfr_states.proofs.RefusalLemmas.{touched_taken, touched_fits}
use Rattle.pfr_states.proofs.TouchLemmas.{table_touched}
use Rattle.pfr_states.proofs.table.Table.move_state.Goals as goal

pub returns-then-another_shares_key-clause-refused : goal.returns-then-another_shares_key-clause-refused
returns-then-another_shares_key-clause-refused c =
    λ _. rw (← c.self.view_is) (touched_taken c.args.state.now c.self.inside.limit c.self.inside.states (sym c.another_shares_key.ensures ∙ c.if-another_shares_key.true))

pub invariant_of-self-2 : goal.invariant_of-self-2
invariant_of-self-2 c = rw c.in_ok-replace.ensures.done (table_touched c.args.state.now c.self.inside.states c.self.inside.limit (sym c.another_shares_key.ensures ∙ c.if-another_shares_key.false) c.self.invariant)

pub returns-clause-allowed : goal.returns-clause-allowed
returns-clause-allowed c = rw (← c.self.view_is) (touched_fits c.args.state.now c.self.inside.limit c.self.inside.states (sym c.another_shares_key.ensures ∙ c.if-another_shares_key.false))
