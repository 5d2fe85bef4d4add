use Rattle.pfr_rewrite.proofs.OrderLawLemmas.{lie_in_order}
use Rattle.pfr_rewrite.proofs.laws.changes_lie_one_behind_the_other.Goals as goal

pub returns : goal.returns
returns c = lie_in_order
