use Rattle.pfr_merge.proofs.StoppedLemmas.{merge_begins}
use Rattle.pfr_merge.proofs.laws.merge_begins.Goals as goal

pub returns : goal.returns
returns c = merge_begins
