use Rattle.std.proofs.Common.{rules}
use Rattle.pfr_criteria.specs.Hosts.{host_holds}
use Rattle.pfr_criteria.proofs.hosts.host_holds.Goals as goal

pub returns-else-criterion : goal.returns-else-criterion
unfolding host_holds
returns-else-criterion c = search rules
