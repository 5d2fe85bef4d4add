use Rattle.std.proofs.Common.{◌∙◌, sym}
use Rattle.pfr_ruleset.specs.contracts.flat.FlatRulePartialEq.TheImpl.{ghosts}
use Rattle.pfr_wording.proofs.SameLemmas.{same_list, same_rule}
use Rattle.pfr_wording.proofs.same.are_equal_rules.Goals as goal

pub returns : goal.returns
returns c = λ h. same_list ghosts.eq same_rule _ _ (sym c.eq.ensures ∙ h)
