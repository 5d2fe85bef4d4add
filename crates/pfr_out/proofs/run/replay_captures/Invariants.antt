use Rattle.std.proofs.Common.{Some}
use Rattle.std.specs.Arc.{arc_value}
use Rattle.pfr_out.proofs.run.replay_captures.Given as goal

-- the histories that were just opened, and the book's job
abbrev pub ghosts-run-J-Naming : goal.ghosts-run-J-Naming
ghosts-run-J-Naming g a = record { history = a.histories.changes }

abbrev pub ghosts-run-J-TableNaming : goal.ghosts-run-J-TableNaming
ghosts-run-J-TableNaming g a = record { limit = (arc_value a.book.job).rules.options.state_limit }

abbrev pub ghosts-run-J-OfRun : goal.ghosts-run-J-OfRun
ghosts-run-J-OfRun g a = record { job = Some (arc_value a.book.job) }

abbrev pub ghosts-run-K-Naming : goal.ghosts-run-K-Naming
ghosts-run-K-Naming g a = record { history = a.histories.batches }
