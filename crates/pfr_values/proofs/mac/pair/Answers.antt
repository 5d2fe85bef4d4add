use Rattle.std.proofs.Common.{rules}
use Rattle.pfr_values.specs.Macs.{pair_of}
use Rattle.pfr_values.proofs.mac.pair.Goals as goal

pub returns : goal.returns
unfolding pair_of
returns c = search rules
