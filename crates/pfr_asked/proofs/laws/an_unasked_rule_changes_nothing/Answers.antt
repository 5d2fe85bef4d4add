use Rattle.pfr_asked.proofs.RunLemmas.{unasked}
use Rattle.pfr_asked.proofs.laws.an_unasked_rule_changes_nothing.Goals as goal

pub returns : goal.returns
returns c = unasked
