use Rattle.pfr_ruleset.proofs.WrittenLemmas.{table_holds}
use Rattle.pfr_ruleset.proofs.laws.table_holds_what_is_written.Goals as goal

pub returns : goal.returns
returns c = table_holds
