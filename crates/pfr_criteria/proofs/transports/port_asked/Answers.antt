use Rattle.std.proofs.Common.{rules}
use Rattle.pfr_criteria.proofs.transports.port_asked.Goals as goal

pub returns-in-Some-None : goal.returns-in-Some-None
returns-in-Some-None c = search rules
