use Rattle.std.proofs.Common.{arith}
use Rattle.std.proofs.lemmas.Grind.{common_steps}
use Rattle.pfr_headers.specs.Transport.{udp_of}
use Rattle.pfr_headers.proofs.segment.udp.Goals as goal

pub returns : goal.returns
unfolding udp_of
returns c = grind (arith, common_steps)
