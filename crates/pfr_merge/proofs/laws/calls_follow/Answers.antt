use Rattle.pfr_merge.proofs.MergeReadingLemmas.{merges_twice}
use Rattle.pfr_merge.proofs.laws.calls_follow.Goals as goal

pub returns : goal.returns
returns c = merges_twice
