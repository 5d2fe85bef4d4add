-- A list of addresses one mark after the other.
use Rattle.std.proofs.Common.{◌≡◌, ◌<◌, List, [], ◌∷◌, Option, arith, length, drop, refl}
use Rattle.pfr_marks.specs.declared.mark.Mark.{Mark}
use Rattle.pfr_phrases.specs.declared.reason.Reason.{Reason}
use Rattle.pfr_spelling.specs.declared.known.Known.{Known}
use Rattle.pfr_rewrite.specs.UnseenLists.{list_from, list_step}
use Rattle.pfr_rewrite.specs.declared.unseen_list.Seen.{Seen}
use Rattle.pfr_rewrite.specs.declared.unseen_list.Step.TheVariants as step

pub goes_here : (known : Known) (seen next : Seen) (marks : List Mark) → 0 < length marks → list_step known seen marks ≡ step.Goes next
    → list_from known next (drop 1 marks) ≡ list_from known seen marks
goes_here known seen next [] some is = absurd (omega arith)
goes_here known seen next (mark ∷ marks) some is = rw (is, list_from) refl

pub ends_here : (known : Known) (seen : Seen) (found : Option Reason) (marks : List Mark) → 0 < length marks
    → list_step known seen marks ≡ step.Ends found → found ≡ list_from known seen marks
ends_here known seen found [] some is = absurd (omega arith)
ends_here known seen found (mark ∷ marks) some is = rw (is, list_from) refl
