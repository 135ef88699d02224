use Rattle.grid_rows.proofs.callers.left_of.Given as goal

-- the name of the blank's table
abbrev pub ghosts-pair : goal.ghosts-pair
ghosts-pair g a = record { table = a.blank.table; workers = a.blank.workers }
