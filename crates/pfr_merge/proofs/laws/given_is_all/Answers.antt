use Rattle.pfr_merge.proofs.MergedLemmas.{all_given}
use Rattle.pfr_merge.proofs.laws.given_is_all.Goals as goal

pub returns : goal.returns
returns c = all_given
