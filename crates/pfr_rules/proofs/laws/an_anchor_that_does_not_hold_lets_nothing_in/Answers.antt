use Rattle.pfr_rules.proofs.AnchorLemmas.{passes_by}
use Rattle.pfr_rules.proofs.laws.an_anchor_that_does_not_hold_lets_nothing_in.Goals as goal

pub returns : goal.returns
returns c = passes_by
