use Rattle.pfr_merge.proofs.MergeLemmas.{merged_is_merge}
use Rattle.pfr_merge.proofs.laws.merged_is_merge.Goals as goal

pub returns : goal.returns
returns c = merged_is_merge
