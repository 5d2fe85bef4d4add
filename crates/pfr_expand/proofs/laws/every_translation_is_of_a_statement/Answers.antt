use Rattle.pfr_expand.proofs.TranslationLemmas.{all_of_ones}
use Rattle.pfr_expand.proofs.laws.every_translation_is_of_a_statement.Goals as goal

pub returns : goal.returns
returns c = all_of_ones
