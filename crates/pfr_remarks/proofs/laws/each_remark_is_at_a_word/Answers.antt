use Rattle.pfr_remarks.proofs.WordLemmas.{are_at_words}
use Rattle.pfr_remarks.proofs.laws.each_remark_is_at_a_word.Goals as goal

pub returns : goal.returns
returns c = are_at_words
