-- What a clause reads of the thread that changes the table.
use Rattle.std.specs.Prelude.{Bool, List, drop, fold}
use Rattle.left_right.specs.declared.Absorb as absorb
use Rattle.left_right.specs.declared.writer.Writer.{Writer}
use Rattle.pfr_history.specs.declared.history.Naming as naming
use Rattle.pfr_states.specs.declared.change.Change.{Change}
use Rattle.pfr_published.specs.declared.copy.TableNaming as tables
use Rattle.pfr_published.specs.declared.copy.Progress.{Progress}
use Rattle.pfr_published.specs.declared.copy.TableCopy.{TableCopy}
use Rattle.pfr_published.specs.declared.published.Published.{Published}
use Rattle.pfr_published.specs.declared.added.Added.{Added}
use Rattle.pfr_published.specs.Copies.{progress}
use Rattle.pfr_published.specs.Steps.{applied}

module _ {J V P A S : Type 0} {n : tables.Ghosts J} {h : naming.Ghosts J} {g : absorb.Ghosts (TableCopy J n h) (Added J n h) S} where
  -- what the copy has that a writer shows
  abbrev pub shown_by : Writer (TableCopy J n h) (Added J n h) V P A S g → Progress
  shown_by writer = progress writer.desk.shown.value

  -- what a writer keeps and has not done to that copy yet
  abbrev pub kept_by : Writer (TableCopy J n h) (Added J n h) V P A S g → List (Added J n h)
  kept_by writer = drop writer.behind writer.log.items

  -- what that copy has once this is done
  abbrev pub shown_next : Writer (TableCopy J n h) (Added J n h) V P A S g → Progress
  shown_next writer = fold applied (shown_by writer) (kept_by writer)

  -- the list of changes that is published
  abbrev pub list_of : Published (Writer (TableCopy J n h) (Added J n h) V P A S g) → List Change
  list_of published = (shown_by published.writer).changes

  -- whether the table is shown to viewers, which it is until it is hidden
  abbrev pub is_shown : Published (Writer (TableCopy J n h) (Added J n h) V P A S g) → Bool
  is_shown published = (shown_by published.writer).is_shown
