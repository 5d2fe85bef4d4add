use Rattle.pfr_merge.proofs.MergedLemmas.{reads_captures}
use Rattle.pfr_merge.proofs.laws.reads_captures.Goals as goal

pub returns : goal.returns
returns c = reads_captures
