use Rattle.std.proofs.Common.{rules}
use Rattle.pfr_packet.proofs.keys.opposite.Goals as goal

pub returns-in-Out : goal.returns-in-Out
returns-in-Out c = search rules
