-- A network with configured buses in node/breaker form.
use Rattle.std.specs.Prelude.{ℕ, pos, ◌+◌, Some, None, unwrap_or, List, [], ◌∷◌, ◌++◌, length, map, find, position, codes}
use Rattle.grid_ids.specs.Name.{same_id}
use Rattle.grid_structure.specs.declared.End.{End}
use Rattle.grid_structure.specs.declared.NamedBranch.{NamedBranch}
use Rattle.grid_structure.specs.declared.Branch.TheVariants.{Line}
use Rattle.grid_structure.specs.Network.{Network, Substation}
use Rattle.grid_placed.specs.Places.{PlacedLevel}
use Rattle.grid_placed.specs.Translation.{translated_level}
use Rattle.grid_json.specs.declared.buses.BusEnd.{BusEnd}
use Rattle.grid_configured.specs.declared.network.ConfiguredLine.{ConfiguredLine}
use Rattle.grid_configured.specs.declared.network.ConfiguredLevel.{ConfiguredLevel}
use Rattle.grid_configured.specs.declared.network.ConfiguredNetwork.{ConfiguredNetwork}
use Rattle.grid_configured.specs.Levels.{placed_level, placed_levels}
use Rattle.grid_configured.specs.Sites.{is_outlet}

-- the id of the substation in which a level stands
unfoldable pub substation_id : List ℕ → List ℕ
substation_id level = level ++ codes "!S"

unfoldable pub substation_of : ConfiguredNetwork → ConfiguredLevel → Substation
substation_of network level = record { id = substation_id level.id; levels = translated_level (placed_level network level) ∷ []; transformers = [] }

-- the node of a terminal in a level
unfoldable pub terminal_node : PlacedLevel → List ℕ → ℕ → ℕ
terminal_node level id side = length level.buses + unwrap_or (position (is_outlet id side) level.outlets) 0

-- the node of a terminal in the level of an id, which is there
unfoldable pub node_in : ConfiguredNetwork → List ℕ → List ℕ → ℕ → ℕ
node_in network level id side = elim (find (λ l. same_id level l.id) (placed_levels network)) [ None ↦ 0 | Some l ↦ terminal_node l id side ]

unfoldable pub translated_end : ConfiguredNetwork → List ℕ → ℕ → BusEnd → End
translated_end network id side end = record { level = end.level; node = pos (node_in network end.level id side) }

unfoldable pub translated_line : ConfiguredNetwork → ConfiguredLine → NamedBranch
translated_line network line = record { id = line.id; shape = Line (translated_end network line.id 1 line.end1) (translated_end network line.id 2 line.end2) }

-- each level in a substation of its own
unfoldable pub translated : ConfiguredNetwork → Network
translated network = record {
  id = network.id;
  substations = map (substation_of network) network.levels;
  lines = map (translated_line network) network.lines;
}
