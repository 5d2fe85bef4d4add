use Rattle.pfr_merge.proofs.StoppedLemmas.{failed}
use Rattle.pfr_merge.proofs.laws.given_is_all_before_failure.Goals as goal

pub returns : goal.returns
returns c = failed
