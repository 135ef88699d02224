use Rattle.std.proofs.Common.{◌≡◌, map, take}
use Rattle.grid_outages.specs.Effects.{levels_of}
use Rattle.grid_outages.proofs.screening.link_levels.Given as goal

abbrev pub invariant-loop-link : goal.invariant-loop-link
invariant-loop-link l = l.levels.items ≡ map levels_of (take l.link-index l.links)
