use Rattle.pfr_states.proofs.ShareLemmas.{other_stack, other_wire}
use Rattle.pfr_states.proofs.indexed.IndexedStates.another_shares_key.Goals as goal

pub returns-then-is_another_found : goal.returns-then-is_another_found
returns-then-is_another_found c = other_wire c.args.state.now c.args.self.now c.is_another_found.result c.is_another_found.ensures c.if-is_another_found.true

pub returns-else-is_another_found : goal.returns-else-is_another_found
returns-else-is_another_found c =
    other_stack c.args.state.now c.args.self.now c.is_another_found.result c.is_another_found-else-is_another_found.result c.is_another_found.ensures c.if-is_another_found.false c.is_another_found-else-is_another_found.ensures
