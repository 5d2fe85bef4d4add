use Rattle.pfr_commit.proofs.ChangeLemmas.{run_made}
use Rattle.pfr_commit.proofs.laws.changes_make_the_table.Goals as goal

pub returns : goal.returns
returns c = run_made c.a_purge_goes_state_by_state.ensures.over
