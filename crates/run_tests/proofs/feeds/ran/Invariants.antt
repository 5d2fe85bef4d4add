use Rattle.std.proofs.Common.{Some}
use Rattle.std.specs.Arc.{arc_value}
use Rattle.run_tests.proofs.feeds.ran.Given as goal

-- the histories that were just opened, and the book's job
abbrev pub ghosts-streamed-J-Naming : goal.ghosts-streamed-J-Naming
ghosts-streamed-J-Naming g a = record { history = a.histories.changes }

abbrev pub ghosts-streamed-J-TableNaming : goal.ghosts-streamed-J-TableNaming
ghosts-streamed-J-TableNaming g a = record { limit = (arc_value a.book.job).rules.options.state_limit }

abbrev pub ghosts-streamed-J-OfRun : goal.ghosts-streamed-J-OfRun
ghosts-streamed-J-OfRun g a = record { job = Some (arc_value a.book.job) }

abbrev pub ghosts-streamed-K-Naming : goal.ghosts-streamed-K-Naming
ghosts-streamed-K-Naming g a = record { history = a.histories.batches }
