use Rattle.grid_rows.proofs.stale.Desk.ask.Given as goal

-- the names of the counters
abbrev pub ghosts-answered-L-Ledger : goal.ghosts-answered-L-Ledger
ghosts-answered-L-Ledger a = record { name = a.visits.name; parts = a.visits.parts }

abbrev pub ghosts-answered-W-Ledger : goal.ghosts-answered-W-Ledger
ghosts-answered-W-Ledger a = record { name = a.writes.name; parts = a.writes.parts }
