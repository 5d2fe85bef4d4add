use Rattle.pfr_merge.proofs.MergeLemmas.{one_merge}
use Rattle.pfr_merge.proofs.laws.one_merge.Goals as goal

pub returns : goal.returns
returns c = one_merge
