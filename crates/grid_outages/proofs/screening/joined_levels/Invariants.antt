use Rattle.std.proofs.Common.{◌≡◌, map, take}
use Rattle.grid_outages.specs.Effects.{levels_at}
use Rattle.grid_outages.proofs.screening.joined_levels.Given as goal

abbrev pub invariant-loop-link : goal.invariant-loop-link
invariant-loop-link l = l.levels.items ≡ map levels_at (take l.link-index l.joined)
