use Rattle.pfr_merge.proofs.StoppedLemmas.{too_long}
use Rattle.pfr_merge.proofs.laws.given_is_all_before_too_long.Goals as goal

pub returns : goal.returns
returns c = too_long
