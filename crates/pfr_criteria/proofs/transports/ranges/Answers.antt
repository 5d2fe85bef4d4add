use Rattle.std.proofs.Common.{rules}
use Rattle.pfr_criteria.proofs.transports.ranges.Goals as goal

pub returns-then-low-port-2 : goal.returns-then-low-port-2
returns-then-low-port-2 c = search rules
