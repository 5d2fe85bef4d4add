use Rattle.pfr_rules.proofs.TranslationLemmas.{gives_back}
use Rattle.pfr_rules.proofs.laws.binat_gives_the_source_back.Goals as goal

pub returns : goal.returns
returns c = gives_back
