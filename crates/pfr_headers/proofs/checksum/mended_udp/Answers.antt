use Rattle.std.proofs.Common.{rules}
use Rattle.pfr_headers.specs.Checksum.{mended_udp}
use Rattle.pfr_headers.proofs.checksum.mended_udp.Goals as goal

pub returns-in-0 : goal.returns-in-0
unfolding mended_udp
returns-in-0 c = search rules

pub returns-in_default : goal.returns-in_default
unfolding mended_udp
returns-in_default c = search rules
