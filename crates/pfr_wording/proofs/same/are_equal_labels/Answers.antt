use Rattle.std.proofs.Common.{◌∙◌, sym}
use Rattle.pfr_wording.proofs.SameLemmas.{same_mapped, same_label}
use Rattle.pfr_wording.proofs.same.are_equal_labels.Goals as goal

pub returns : goal.returns
returns c = λ h. same_mapped _ _ same_label _ _ (sym c.eq.ensures ∙ h)
