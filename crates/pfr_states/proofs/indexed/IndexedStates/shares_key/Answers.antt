use Rattle.pfr_states.proofs.ShareLemmas.{shares_stack, shares_wire}
use Rattle.pfr_states.proofs.indexed.IndexedStates.shares_key.Goals as goal

pub returns-then-is_found : goal.returns-then-is_found
returns-then-is_found c = shares_wire c.args.state.now c.args.self.now c.is_found.result c.is_found.ensures c.if-is_found.true

pub returns-else-is_found : goal.returns-else-is_found
returns-else-is_found c =
    shares_stack c.args.state.now c.args.self.now c.is_found.result c.is_found-else-is_found.result c.is_found.ensures c.if-is_found.false c.is_found-else-is_found.ensures
