use Rattle.pfr_criteria.proofs.SkipLemmas.{translation_skip_fails}
use Rattle.pfr_criteria.proofs.laws.translations_fail_up_to_skips.Goals as goal

pub returns : goal.returns
returns g c = translation_skip_fails
