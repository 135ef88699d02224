use Rattle.std.proofs.Common.{◌≡◌, map, take}
use Rattle.grid_figures.specs.Layouts.{seats_of}
use Rattle.grid_figures.proofs.seats.seat_links.Given as goal

abbrev pub invariant-loop-one : goal.invariant-loop-one
invariant-loop-one l = l.pairs.items ≡ map (seats_of l.starts l.first l.levels) (take l.one-index l.links)
