use Rattle.std.proofs.Common.{rules}
use Rattle.pfr_criteria.proofs.packets.interface_holds.Goals as goal

pub returns-in-Some : goal.returns-in-Some
returns-in-Some c = search rules
