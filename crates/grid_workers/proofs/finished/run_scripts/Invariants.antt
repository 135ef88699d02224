use Rattle.grid_workers.proofs.finished.run_scripts.Given as goal

-- the name of the blank's table
abbrev pub ghosts-run_named : goal.ghosts-run_named
ghosts-run_named g a = record { table = a.blank.table; workers = a.blank.workers }
