use Rattle.pfr_criteria.proofs.Members.{has_is}
use Rattle.pfr_criteria.proofs.hosts.has.Goals as goal

pub returns : goal.returns
returns c = has_is c.has.result c.args.table.now c.args.address.0 c.has.ensures
