-- Tables one mark after the other.
use Rattle.std.proofs.Common.{◌≡◌, ◌<◌, List, [], ◌∷◌, ◌++◌, arith, length, drop, refl}
use Rattle.pfr_marks.specs.declared.mark.Mark.{Mark}
use Rattle.pfr_spelling.specs.declared.tables.Table.{Table}
use Rattle.pfr_spelling.specs.Tables.{table_in, tables_from}

pub one_mark : (found : List Table) (marks : List Mark) → 0 < length marks
    → tables_from (found ++ table_in found marks) (drop 1 marks) ≡ tables_from found marks
one_mark found [] some = absurd (omega arith)
one_mark found (mark ∷ marks) some = refl
