use Rattle.pfr_out.proofs.BeginningLemmas.{read_stop_begins}
use Rattle.pfr_out.proofs.laws.a_failed_read_leaves_a_beginning_of_each.Goals as goal

pub returns : goal.returns
returns c = read_stop_begins
