use Rattle.pfr_flat.proofs.Members.{negated_table}
use Rattle.pfr_flat.proofs.laws.negated_table_is_the_negation.Goals as goal

pub returns : goal.returns
returns c = negated_table
