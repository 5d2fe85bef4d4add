use Rattle.pfr_expand.proofs.OwnLemmas.{text_has_own_table}
use Rattle.pfr_expand.proofs.laws.the_first_table_is_of_the_interfaces.Goals as goal

pub returns : goal.returns
returns c = text_has_own_table
