use Rattle.grid_rows.proofs.benches.labels_follow_the_coupler.Given as goal

-- the names of the counters
abbrev pub ghosts-follow_coupler-L-Ledger : goal.ghosts-follow_coupler-L-Ledger
ghosts-follow_coupler-L-Ledger g a = record { name = a.visits.name; parts = a.visits.parts }

abbrev pub ghosts-follow_coupler-W-Ledger : goal.ghosts-follow_coupler-W-Ledger
ghosts-follow_coupler-W-Ledger g a = record { name = a.writes.name; parts = a.writes.parts }
