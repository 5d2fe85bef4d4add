use Rattle.std.proofs.Common.{arith}
use Rattle.std.proofs.lemmas.Grind.{common_steps}
use Rattle.pfr_words.specs.Words.{piece_len}
use Rattle.pfr_words.proofs.cutting.piece_len.Goals as goal

pub returns-in-35-clause-value : goal.returns-in-35-clause-value
unfolding piece_len
returns-in-35-clause-value c = grind (arith, common_steps)
