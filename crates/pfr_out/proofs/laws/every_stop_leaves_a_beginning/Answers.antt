use Rattle.pfr_out.proofs.BeginningLemmas.{stop_begins}
use Rattle.pfr_out.proofs.laws.every_stop_leaves_a_beginning.Goals as goal

pub returns : goal.returns
returns c = stop_begins
