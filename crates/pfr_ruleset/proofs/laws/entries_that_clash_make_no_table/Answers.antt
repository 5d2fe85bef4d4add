use Rattle.pfr_ruleset.proofs.ClashLemmas.{none_where_two_clash}
use Rattle.pfr_ruleset.proofs.laws.entries_that_clash_make_no_table.Goals as goal

pub returns : goal.returns
returns c = none_where_two_clash
