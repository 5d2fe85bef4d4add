use Rattle.pfr_criteria.proofs.SkipLemmas.{skip_fails}
use Rattle.pfr_criteria.proofs.laws.rules_fail_up_to_skips.Goals as goal

pub returns : goal.returns
returns c = skip_fails
