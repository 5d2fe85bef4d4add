use Rattle.pfr_standby.proofs.MapLemmas.{removes_through}
use Rattle.pfr_standby.proofs.changes.remove.Goals as goal

pub returns : goal.returns
returns c = removes_through c.args.number.0 c.args.states.now.entries c.remove.new.self.entries c.remove.ensures.entries c.remove.ensures.updates.1
