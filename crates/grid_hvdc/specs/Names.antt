-- The buses of a network by the places of their levels and their least nodes.
use Rattle.std.specs.Prelude.{ℕ, Bool, List, map, flat_map}
use Rattle.std.specs.List.{enumerate_from}
use Rattle.grid_level.specs.VoltageLevel.{VoltageLevel}
use Rattle.grid_structure.specs.Network.{Network}
use Rattle.grid_structure.specs.Sites.{levels}
use Rattle.grid_busview.specs.Views.{bus_leasts}
use Rattle.grid_islands.specs.Numbering.{standing}
use Rattle.grid_hvdc.specs.declared.buses.BusName.{BusName}

abbrev pub name_at : ℕ → ℕ → BusName
name_at level least = record { level = level; least = least }

-- the buses of the level at a place
unfoldable pub level_names : List (List Bool) → ℕ × VoltageLevel → List BusName
level_names opened at = map (name_at at.0) (bus_leasts (standing opened at))

-- those of all levels, in the order of their numbers
unfoldable pub bus_names : Network → List (List Bool) → List BusName
bus_names net opened = flat_map (level_names opened) (enumerate_from 0 (levels net))
