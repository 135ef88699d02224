use Rattle.std.proofs.Common.{◌≡◌, take}
use Rattle.std.specs.Prelude.{flat_map}
use Rattle.std.specs.List.{enumerate_from}
use Rattle.grid_structure.specs.Sites.{levels}
use Rattle.grid_islands.proofs.LevelNumbers.{numbered_before}
use Rattle.grid_hvdc.specs.Names.{level_names}
use Rattle.grid_hvdc.proofs.buses.list_buses.Given as goal

abbrev pub invariant-loop-place : goal.invariant-loop-place
invariant-loop-place l = record {
  numbers : l.numbered ≡ numbered_before l.states.opened (levels l.structure) l.place;
  names : l.names ≡ flat_map (level_names l.states.opened) (take l.place (enumerate_from 0 (levels l.structure)));
}
