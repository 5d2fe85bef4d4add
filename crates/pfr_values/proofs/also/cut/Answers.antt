use Rattle.std.proofs.Common.{arith}
use Rattle.pfr_prepare.proofs.CutLemmas.{cut_is}
use Rattle.pfr_values.proofs.also.cut.Goals as goal

pub returns : goal.returns
returns c = cut_is 44 c.args.word.now c.split_once.result (c.split_once.ensures.byte (omega arith) (λ w o h. h))
