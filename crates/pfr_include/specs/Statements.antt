-- The statements that name files.
use Rattle.std.specs.Prelude.{ℕ, ◌==◌, not, if◌then◌else◌, List, [], ◌∷◌, ◌++◌, codes, Option, Some, None}
use Rattle.pfr_marks.specs.declared.mark.Mark.{Mark}
use Rattle.pfr_marks.specs.declared.mark.Place.{Place}
use Rattle.pfr_marks.specs.Marks.{is}
use Rattle.pfr_include.specs.declared.file.File.{File}
use Rattle.pfr_include.specs.declared.file.Found.{Found}
use Rattle.pfr_include.specs.declared.position.Position.{Position}
use Rattle.pfr_include.specs.declared.statements.Naming.{Naming}
use Rattle.pfr_include.specs.declared.statements.Statement.{Statement}
use Rattle.pfr_include.specs.declared.statements.Statement.TheVariants as statement
use Rattle.pfr_include.specs.Files.{name_of, named_file}
use Rattle.pfr_include.specs.Positions.{begins_statement, depth_behind, ends_line, position_behind}

abbrev pub naming_by : (start end : Place) → Option Found → Option Naming
naming_by start end None = None
naming_by start end (Some found) = Some (record { start = start; end = end; found = found })

-- a statement that ends with the name of a file, by what stands behind its other words
unfoldable pub naming_at : List File → Place → List Mark → Option Naming
naming_at files start [] = None
naming_at files start (named ∷ more) = if not (ends_line more) then None else naming_by start named.end (named_file files named.piece)

abbrev pub include_by : Option Naming → Option Statement
include_by None = None
include_by (Some naming) = Some (statement.Include naming)

-- `include NAME`, by what stands behind the first word
unfoldable pub include_of : List File → Place → List Mark → Option Statement
include_of files start behind = include_by (naming_at files start behind)

-- `from NAME`
unfoldable pub from_at : List File → Place → List Mark → Option Naming
from_at files start [] = None
from_at files start (word ∷ more) = if is (codes "from") word then naming_at files start more else None

abbrev pub load_by : Option (List ℕ) → Option Naming → Option Statement
load_by None naming = None
load_by (Some name) None = None
load_by (Some name) (Some naming) = Some (statement.Load name naming)

-- `NAME from NAME`
unfoldable pub loading_at : List File → Place → List Mark → Option Statement
loading_at files start [] = None
loading_at files start (named ∷ more) = load_by (name_of named.piece) (from_at files start more)

-- `load anchor NAME from NAME`, by what stands behind the first word
unfoldable pub load_of : List File → Place → List Mark → Option Statement
load_of files start [] = None
load_of files start (word ∷ more) = if is (codes "anchor") word then loading_at files start more else None

-- a place, if no brace is open there
abbrev pub place_outside : ℕ → Place → Option Place
place_outside depth place = if depth == 0 then Some place else None

abbrev pub end_from : ℕ → Place → List Mark → Option Place
end_from depth end [] = place_outside depth end
end_from depth end (mark ∷ marks) =
    if is (codes "\n") mark then place_outside depth end
    else end_from (depth_behind depth mark) mark.end marks

-- where the last word of a line ends, if a word ends at `place` and `marks` follow it; none if a brace is open there
unfoldable pub end_of_line : Place → List Mark → Option Place
end_of_line place marks = end_from 0 place marks

abbrev pub anchor_by : Place → Option (List ℕ) → Option Place → Option Statement
anchor_by start None end = None
anchor_by start (Some name) None = None
anchor_by start (Some name) (Some end) = Some (statement.Anchor (record { start = start; end = end; name = name }))

-- `anchor NAME ..` without rules of its own, by what stands behind the first word
unfoldable pub anchor_of : Place → List Mark → Option Statement
anchor_of start [] = None
anchor_of start (named ∷ more) = anchor_by start (name_of named.piece) (end_of_line named.end more)

-- the statement at the front
unfoldable pub statement_at : List File → List Mark → Option Statement
statement_at files [] = None
statement_at files (first ∷ behind) =
    if is (codes "include") first then include_of files first.start behind
    else if is (codes "load") first then load_of files first.start behind
    else if is (codes "anchor") first then anchor_of first.start behind
    else None

abbrev pub statement_in : Option Statement → List Statement
statement_in None = []
statement_in (Some statement) = statement ∷ []

-- the statement at the front of marks, if one begins there
abbrev pub statements_at : List File → Position → List Mark → List Statement
statements_at files position marks = if begins_statement position then statement_in (statement_at files marks) else []

-- the statements of marks, from a position on
abbrev pub statements_from : List File → Position → List Mark → List Statement
statements_from files position [] = []
statements_from files position (mark ∷ marks) =
    statements_at files position (mark ∷ marks) ++ statements_from files (position_behind position (mark ∷ marks)) marks
