use Rattle.std.proofs.Common.{rules}
use Rattle.pfr_words.specs.Words.{double_sign}
use Rattle.pfr_words.proofs.sign.double_sign.Goals as goal

pub returns-in-33-eq61-clause-value : goal.returns-in-33-eq61-clause-value
unfolding double_sign
returns-in-33-eq61-clause-value c = search rules
