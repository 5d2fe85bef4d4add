use Rattle.pfr_work.proofs.ReachLemmas.{reached}
use Rattle.pfr_work.proofs.laws.reached.Goals as goal

pub returns : goal.returns
returns c = reached
