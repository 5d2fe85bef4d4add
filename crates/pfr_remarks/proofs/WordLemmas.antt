-- Each remark stands at a word.
use Rattle.std.proofs.Common.{inl, inr, ℕ, Bool, true, false, if◌then◌else◌, List, [], ◌∷◌, ◌++◌, Option, Some, None, refl}
use Rattle.pfr_marks.specs.declared.mark.Mark.{Mark}
use Rattle.pfr_marks.specs.Marks.{marks}
use Rattle.pfr_marks.specs.Braces.{are_closed}
use Rattle.pfr_remarks.specs.declared.before.Before.{Before}
use Rattle.pfr_remarks.specs.declared.remark.Remark.{Remark}
use Rattle.pfr_remarks.specs.declared.why.Why.{Why}
use Rattle.pfr_remarks.specs.Finding.{at_first, behind_first, remark_in, remarks, remarks_from}
use Rattle.pfr_remarks.specs.Laws.{AreAtWords}
use Rattle.pfr_remarks.specs.Remarks.{said_at}

-- behind one mark more
later : (found : List Remark) (mark : Mark) (marks : List Mark) → AreAtWords found marks → AreAtWords found (mark ∷ marks)
later [] mark marks are = tt
later (remark ∷ found) mark marks are = inr are

with_one : (why : Option Why) (found : List Remark) (mark : Mark) (marks : List Mark) → AreAtWords found marks
    → AreAtWords (remark_in mark why ++ found) (mark ∷ marks)
with_one (Some why) found mark marks are = inl (refl, refl, are)
with_one None found mark marks are = later found mark marks are

at_words : (before : Before) (marks : List Mark) → AreAtWords (remarks_from before marks) marks
at_words before [] = tt
at_words before (mark ∷ marks) =
    with_one (said_at before mark marks) (remarks_from (behind_first before (mark ∷ marks)) marks) mark marks
    (at_words (behind_first before (mark ∷ marks)) marks)

if_closed : (closed : Bool) (marks : List Mark) → AreAtWords (if closed then remarks_from at_first marks else []) marks
if_closed true marks = at_words at_first marks
if_closed false marks = tt

pub are_at_words : (text : List ℕ) → AreAtWords (remarks text) (marks text)
unfolding remarks
are_at_words text = if_closed (are_closed (marks text)) (marks text)
