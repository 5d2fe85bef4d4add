use Rattle.pfr_expand.proofs.NumberLemmas.{text_has_own_numbers}
use Rattle.pfr_expand.proofs.laws.translations_have_numbers_of_their_own.Goals as goal

pub returns : goal.returns
returns c = text_has_own_numbers
