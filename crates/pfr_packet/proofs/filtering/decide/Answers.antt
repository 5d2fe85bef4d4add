use Rattle.std.proofs.Common.{rules}
use Rattle.pfr_packet.proofs.filtering.decide.Goals as goal

pub returns : goal.returns
returns c = search rules
