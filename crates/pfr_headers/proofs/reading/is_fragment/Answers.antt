use Rattle.std.proofs.Common.{arith}
use Rattle.std.proofs.lemmas.Grind.{common_steps}
use Rattle.pfr_headers.proofs.reading.is_fragment.Goals as goal

pub returns : goal.returns
returns c = grind (arith, common_steps)
