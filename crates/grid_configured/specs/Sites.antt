-- Where the things of a network with configured buses are.
use Rattle.std.specs.Prelude.{ℕ, Bool, ◌&&◌, ◌==◌, if◌then◌else◌, Option, Some, None, List, map, flat_map, position}
use Rattle.grid_ids.specs.Name.{same_id, has_id}
use Rattle.grid_structure.specs.Sites.{first_found}
use Rattle.grid_configured.specs.declared.network.ConfiguredNetwork.{ConfiguredNetwork}
use Rattle.grid_placed.specs.Places.{Joint, Outlet}
use Rattle.grid_configured.specs.Levels.{placed_levels}

unfoldable pub bus_ids : ConfiguredNetwork → List (List ℕ)
bus_ids network = flat_map (λ l. l.buses) network.levels

unfoldable pub item_ids : ConfiguredNetwork → List (List ℕ)
item_ids network = flat_map (λ l. map (λ i. i.id) l.items) network.levels

unfoldable pub line_ids : ConfiguredNetwork → List (List ℕ)
line_ids network = map (λ l. l.id) network.lines

-- the place of a level
unfoldable pub find_level : ConfiguredNetwork → List ℕ → Option ℕ
find_level network id = position (λ l. same_id id l.id) network.levels

-- whether a switch has the id
unfoldable pub is_joint : List ℕ → Joint → Bool
is_joint id s = same_id id s.id

-- whether it is the terminal of this side of the equipment
unfoldable pub is_outlet : List ℕ → ℕ → Outlet → Bool
is_outlet id side t = same_id id t.terminal.equipment && (t.terminal.side == side)

-- the place of a switch's level, and its own place there
unfoldable pub find_joint : ConfiguredNetwork → List ℕ → Option (ℕ × ℕ)
find_joint network id = first_found 0 (λ l. position (is_joint id) l.joints) (placed_levels network)

-- the place of a terminal's level, and its own place among the terminals there
unfoldable pub find_outlet : ConfiguredNetwork → List ℕ → ℕ → Option (ℕ × ℕ)
find_outlet network id side = first_found 0 (λ l. position (is_outlet id side) l.outlets) (placed_levels network)

-- how many sides an injection or a line has
unfoldable pub sides : ConfiguredNetwork → List ℕ → Option ℕ
sides network id = if has_id (item_ids network) id then Some 1 else if has_id (line_ids network) id then Some 2 else None
