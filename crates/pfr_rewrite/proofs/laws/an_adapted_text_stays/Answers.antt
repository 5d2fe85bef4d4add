use Rattle.pfr_rewrite.proofs.AdaptLemmas.{adapted_stays}
use Rattle.pfr_rewrite.proofs.laws.an_adapted_text_stays.Goals as goal

pub returns : goal.returns
returns c = adapted_stays
