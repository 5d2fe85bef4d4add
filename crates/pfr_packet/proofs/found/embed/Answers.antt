use Rattle.std.proofs.Common.{rules}
use Rattle.pfr_packet.proofs.found.embed.Goals as goal

pub returns : goal.returns
returns c = search rules
