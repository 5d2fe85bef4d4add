-- A text with files in the place of its statements, turn by turn.
use Rattle.std.specs.Prelude.{ℕ, zero, suc, nat_lt, if◌then◌else◌, List, [], ◌∷◌, length, Option, Some, None}
use Rattle.pfr_marks.specs.Marks.{marks}
use Rattle.pfr_include.specs.declared.file.File.{File}
use Rattle.pfr_include.specs.declared.splices.Splice.{Splice}
use Rattle.pfr_include.specs.declared.splicing.Included.{Included}
use Rattle.pfr_include.specs.Positions.{first}
use Rattle.pfr_include.specs.Splices.{splices_for}
use Rattle.pfr_include.specs.Splicing.{after, itself}
use Rattle.pfr_include.specs.Statements.{statements_from}

-- what is spliced of a text
unfoldable pub splices : List File → List ℕ → List Splice
splices files text = splices_for (statements_from files first (marks text))

abbrev pub after_some : Included → List Splice → Option Included
after_some now [] = None
after_some now (splice ∷ splices) = Some (after now (splice ∷ splices))

-- what a turn makes of a text, if there is something to splice and it isn't too long
unfoldable pub turn : List File → Included → Option Included
turn files now = if nat_lt 1048576 (length now.text) then None else after_some now (splices files now.text)

-- at most `left` turns
unfoldable pub turns : (left : ℕ) → List File → Included → Included
turns zero files now = now
turns (suc left) files now = elim (turn files now) [
  | Some next ↦ turns left files next
  | None ↦ now
]

-- a ruleset text with files in the place of its statements
unfoldable pub with_files : List ℕ → List File → Included
with_files text files = turns 16 files (itself text)
