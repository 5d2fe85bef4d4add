use Rattle.std.proofs.Common.{rules}
use Rattle.pfr_criteria.specs.Packets.{match_holds}
use Rattle.pfr_criteria.proofs.packets.match_holds.Goals as goal

pub returns-then-host_holds : goal.returns-then-host_holds
unfolding match_holds
returns-then-host_holds c = search rules

pub returns-else-host_holds : goal.returns-else-host_holds
unfolding match_holds
returns-else-host_holds c = search rules
