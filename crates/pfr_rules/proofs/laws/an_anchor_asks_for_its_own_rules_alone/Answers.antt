use Rattle.pfr_rules.proofs.AnchorLemmas.{same_decides}
use Rattle.pfr_rules.proofs.laws.an_anchor_asks_for_its_own_rules_alone.Goals as goal

pub returns : goal.returns
returns c = same_decides
