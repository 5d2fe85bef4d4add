use Rattle.pfr_rewrite.proofs.WordLawLemmas.{are_at_words}
use Rattle.pfr_rewrite.proofs.laws.each_finding_is_at_a_word.Goals as goal

pub returns : goal.returns
returns c = are_at_words
