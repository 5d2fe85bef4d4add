use Rattle.pfr_shadows.proofs.DecidingLemmas.{none_decided}
use Rattle.pfr_shadows.proofs.laws.shadowed_rules_decide_none.Goals as goal

pub returns : goal.returns
returns c = none_decided
