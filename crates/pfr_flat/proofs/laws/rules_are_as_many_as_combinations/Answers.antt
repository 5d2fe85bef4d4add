use Rattle.pfr_flat.proofs.Order.{combination_count}
use Rattle.pfr_flat.proofs.laws.rules_are_as_many_as_combinations.Goals as goal

pub returns : goal.returns
returns c = combination_count
