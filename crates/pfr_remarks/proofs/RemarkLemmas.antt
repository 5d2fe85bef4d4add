-- Remarks one mark after the other.
use Rattle.std.proofs.Common.{◌≡◌, ◌<◌, List, [], ◌∷◌, ◌++◌, arith, length, drop}
use Rattle.std.proofs.lemmas.List.{append_assoc}
use Rattle.pfr_marks.specs.declared.mark.Mark.{Mark}
use Rattle.pfr_remarks.specs.declared.before.Before.{Before}
use Rattle.pfr_remarks.specs.declared.remark.Remark.{Remark}
use Rattle.pfr_remarks.specs.Finding.{behind_first, remarks_at, remarks_from}

-- at one mark more
pub one_mark : (found : List Remark) (before : Before) (marks : List Mark) → 0 < length marks
    → found ++ remarks_at before marks ++ remarks_from (behind_first before marks) (drop 1 marks) ≡ found ++ remarks_from before marks
one_mark found before [] some = absurd (omega arith)
one_mark found before (mark ∷ marks) some = append_assoc found _ _
