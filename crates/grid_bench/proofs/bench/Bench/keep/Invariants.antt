use Rattle.grid_bench.proofs.bench.Bench.keep.Given as goal

abbrev pub ghosts-keep_counted-L-Ledger : goal.ghosts-keep_counted-L-Ledger
ghosts-keep_counted-L-Ledger a = record { name = a.visits.name; parts = a.visits.parts }

abbrev pub ghosts-keep_counted-W-Ledger : goal.ghosts-keep_counted-W-Ledger
ghosts-keep_counted-W-Ledger a = record { name = a.writes.name; parts = a.writes.parts }
