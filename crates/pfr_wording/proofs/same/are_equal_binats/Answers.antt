use Rattle.std.proofs.Common.{◌∙◌, sym}
use Rattle.pfr_wording.proofs.SameLemmas.{same_list, same_translation, same_address}
use Rattle.pfr_wording.proofs.same.are_equal_binats.Goals as goal

pub returns : goal.returns
returns c = λ h. same_list _ (same_translation _ same_address) _ _ (sym c.eq.ensures ∙ h)
