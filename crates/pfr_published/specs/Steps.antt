-- What is done to each copy of the table.
use Rattle.std.specs.Prelude.{Bool, false, List, ◌-◌, ◌==◌, length, if◌then◌else◌}
use Rattle.pfr_history.specs.declared.history.Naming as naming
use Rattle.pfr_states.specs.declared.change.Change.{Change}
use Rattle.pfr_published.specs.declared.copy.TableNaming as tables
use Rattle.pfr_published.specs.declared.copy.Progress.{Progress}
use Rattle.pfr_published.specs.declared.added.Added.{Added}
use Rattle.pfr_published.specs.declared.added.Added.TheVariants.{OneChange, Hiding}

-- whether a list is one change longer than another one
abbrev pub is_next : List Change → List Change → Bool
is_next list longer = (length longer - length list) == 1

-- what a copy has after a change, if the change is next
abbrev pub with_next : Progress → List Change → Progress
with_next before longer = if is_next before.changes longer then record { changes = longer; is_shown = before.is_shown } else before

-- a change that isn't next leaves all as it is; a table that is hidden stays so
abbrev pub applied : {J : Type 0} {n : tables.Ghosts J} {h : naming.Ghosts J} → Progress → Added J n h → Progress
applied before (OneChange added) = with_next before added.front
applied before (Hiding front) = record { changes = front; is_shown = false }
