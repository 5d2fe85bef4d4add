use Rattle.unit_tests.proofs.workers.finished.Given as goal

-- the list that was just opened
abbrev pub ghosts-finished_under : goal.ghosts-finished_under
ghosts-finished_under g a = record { history = a.opened }
