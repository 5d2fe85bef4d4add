-- What the copies of the table have in common.
use Rattle.std.specs.Prelude.{is_some}
use Rattle.pfr_history.specs.declared.history.Naming as naming
use Rattle.pfr_published.specs.declared.copy.TableNaming as tables
use Rattle.pfr_published.specs.declared.copy.Progress.{Progress}
use Rattle.pfr_published.specs.declared.copy.TableCopy.{TableCopy}

-- how far the list has come in a copy, and whether there is a table
abbrev pub progress : {J : Type 0} {n : tables.Ghosts J} {h : naming.Ghosts J} → TableCopy J n h → Progress
progress copy = record { changes = copy.front; is_shown = is_some copy.table }
