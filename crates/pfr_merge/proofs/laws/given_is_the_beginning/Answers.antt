use Rattle.pfr_merge.proofs.MergedLemmas.{begins}
use Rattle.pfr_merge.proofs.laws.given_is_the_beginning.Goals as goal

pub returns : goal.returns
returns c = begins
