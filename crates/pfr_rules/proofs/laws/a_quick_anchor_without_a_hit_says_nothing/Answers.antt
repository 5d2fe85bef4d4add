use Rattle.pfr_rules.proofs.AnchorLemmas.{quick_says_nothing}
use Rattle.pfr_rules.proofs.laws.a_quick_anchor_without_a_hit_says_nothing.Goals as goal

pub returns : goal.returns
returns c = quick_says_nothing
