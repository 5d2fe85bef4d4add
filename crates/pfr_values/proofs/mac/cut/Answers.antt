use Rattle.std.proofs.Common.{arith}
use Rattle.pfr_prepare.proofs.CutLemmas.{cut_is}
use Rattle.pfr_values.proofs.mac.cut.Goals as goal

pub returns : goal.returns
returns c = cut_is 61 c.args.word.now c.split_once.result (c.split_once.ensures.byte (omega arith) (λ w o h. h))
