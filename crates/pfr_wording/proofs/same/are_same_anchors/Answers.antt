use Rattle.std.proofs.Common.{◌∙◌, sym}
use Rattle.pfr_ruleset.specs.contracts.flat.FlatAnchorPartialEq.TheImpl.{ghosts}
use Rattle.pfr_wording.proofs.SameLemmas.{same_list, same_anchor}
use Rattle.pfr_wording.proofs.same.are_same_anchors.Goals as goal

pub returns : goal.returns
returns c = λ h. same_list ghosts.eq same_anchor _ _ (sym c.eq.ensures ∙ h)
