-- Statements one mark after the other.
use Rattle.std.proofs.Common.{◌≡◌, ◌<◌, List, [], ◌∷◌, ◌++◌, arith, length, drop}
use Rattle.std.proofs.lemmas.List.{append_assoc}
use Rattle.pfr_marks.specs.declared.mark.Mark.{Mark}
use Rattle.pfr_include.specs.declared.file.File.{File}
use Rattle.pfr_include.specs.declared.position.Position.{Position}
use Rattle.pfr_include.specs.declared.statements.Statement.{Statement}
use Rattle.pfr_include.specs.Statements.{statements_at, statements_from}
use Rattle.pfr_include.specs.Positions.{position_behind}

-- at one mark more
pub one_mark : (found : List Statement) (files : List File) (position : Position) (marks : List Mark) → 0 < length marks
    → found ++ statements_at files position marks ++ statements_from files (position_behind position marks) (drop 1 marks)
    ≡ found ++ statements_from files position marks
one_mark found files position [] some = absurd (omega arith)
one_mark found files position (mark ∷ marks) some = append_assoc found _ _
