use Rattle.pfr_rewrite.proofs.JoinLawLemmas.{stays_between}
use Rattle.pfr_rewrite.proofs.laws.what_stands_between_stays.Goals as goal

pub returns : goal.returns
returns c = stays_between
