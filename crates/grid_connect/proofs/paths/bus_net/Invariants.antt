use Rattle.grid_connect.proofs.paths.bus_net.Given as goal

abbrev pub ghosts-net_counted : goal.ghosts-net_counted
ghosts-net_counted a = record { name = a.visits.name; parts = a.visits.parts }
