use Rattle.unit_tests.proofs.published.another_thread_sees_what_is_published.Given as goal

-- the list that was just opened
abbrev pub ghosts-seen_beside-J-Naming : goal.ghosts-seen_beside-J-Naming
ghosts-seen_beside-J-Naming g a = record { history = a.opened }

-- and the limit that is given
abbrev pub ghosts-seen_beside-J-TableNaming : goal.ghosts-seen_beside-J-TableNaming
ghosts-seen_beside-J-TableNaming g a = record { limit = a.limit }
