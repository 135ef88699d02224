use Rattle.std.proofs.Common.{◌≡◌, take}
use Rattle.std.specs.Prelude.{flat_map}
use Rattle.grid_hvdc.specs.Stations.{links_of_line}
use Rattle.grid_hvdc.proofs.links.link_pairs.Given as goal

abbrev pub invariant-loop-line : goal.invariant-loop-line
invariant-loop-line l = l.links ≡ flat_map (links_of_line l.structure l.rows) (take l.line-index l.lines)
