-- What pfctl(8) refuses of a text.
use Rattle.std.specs.Prelude.{ℕ, if◌then◌else◌, List, [], ◌∷◌, ◌++◌, Option, Some, None}
use Rattle.pfr_marks.specs.declared.mark.Mark.{Mark}
use Rattle.pfr_marks.specs.Braces.{are_closed}
use Rattle.pfr_marks.specs.Marks.{marks}
use Rattle.pfr_remarks.specs.declared.before.Before.{Before}
use Rattle.pfr_remarks.specs.declared.remark.Remark.{Remark}
use Rattle.pfr_remarks.specs.declared.why.Why.{Why}
use Rattle.pfr_remarks.specs.Befores.{beginning, behind}
use Rattle.pfr_remarks.specs.Remarks.{remark_at, said_at}

abbrev pub remark_in : Mark → Option Why → List Remark
remark_in mark None = []
remark_in mark (Some why) = remark_at mark why ∷ []

-- what is said at the first of these marks
abbrev pub remarks_at : Before → List Mark → List Remark
remarks_at before [] = []
remarks_at before (mark ∷ more) = remark_in mark (said_at before mark more)

-- what stands before the second of these marks
abbrev pub behind_first : Before → List Mark → Before
behind_first before [] = before
behind_first before (mark ∷ more) = behind before mark more (said_at before mark more)

abbrev pub remarks_from : Before → List Mark → List Remark
remarks_from before [] = []
remarks_from before (mark ∷ marks) = remarks_at before (mark ∷ marks) ++ remarks_from (behind_first before (mark ∷ marks)) marks

-- at the first mark of a text
abbrev pub at_first : Before
at_first = beginning

-- what pfctl refuses of a text, in the order of the text: nothing if a brace isn't closed, or closes nothing
unfoldable pub remarks : List ℕ → List Remark
remarks text = if are_closed (marks text) then remarks_from at_first (marks text) else []
