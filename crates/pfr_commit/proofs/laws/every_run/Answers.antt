use Rattle.pfr_commit.proofs.MachineLemmas.{every_run}
use Rattle.pfr_commit.proofs.laws.every_run.Goals as goal

pub returns : goal.returns
returns c = every_run
