-- The levels of a network with configured buses, by places of buses.
use Rattle.std.specs.Prelude.{ℕ, if◌then◌else◌, None, unwrap_or, List, [], ◌∷◌, ◌++◌, map, flat_map, position}
use Rattle.grid_ids.specs.Name.{same_id}
use Rattle.grid_level.specs.declared.Terminal.{Terminal}
use Rattle.grid_level.specs.declared.Stand.TheVariants.{Feeder, BranchEnd}
use Rattle.grid_json.specs.declared.buses.BusSwitch.{BusSwitch}
use Rattle.grid_json.specs.declared.buses.BusInjection.{BusInjection}
use Rattle.grid_json.specs.declared.buses.BusEnd.{BusEnd}
use Rattle.grid_configured.specs.declared.network.ConfiguredLine.{ConfiguredLine}
use Rattle.grid_configured.specs.declared.network.ConfiguredLevel.{ConfiguredLevel}
use Rattle.grid_configured.specs.declared.network.ConfiguredNetwork.{ConfiguredNetwork}
use Rattle.grid_placed.specs.Places.{Joint, Outlet, PlacedLevel}

-- the place of the bus of an id, which is there
unfoldable pub bus_place : List (List ℕ) → List ℕ → ℕ
bus_place buses id = unwrap_or (position (same_id id) buses) 0

unfoldable pub joint_of : ConfiguredLevel → BusSwitch → Joint
joint_of level s = record { id = s.id; place1 = bus_place level.buses s.bus1; place2 = bus_place level.buses s.bus2; opened = s.opened }

-- a terminal of an equipment
abbrev pub terminal : List ℕ → ℕ → Terminal
terminal id side = record { equipment = id; side = side }

-- the terminal of an injection
unfoldable pub item_outlet : ConfiguredLevel → BusInjection → Outlet
item_outlet level i = record { terminal = terminal i.id 1; place = bus_place level.buses i.bus; connected = i.connected; stand = Feeder i.item }

-- the terminal of a line's end, where it is in the level
unfoldable pub end_outlets : ConfiguredLevel → List ℕ → ℕ → BusEnd → List Outlet
end_outlets level id side end =
    if same_id level.id end.level then record { terminal = terminal id side; place = bus_place level.buses end.bus; connected = end.connected; stand = BranchEnd } ∷ [] else []

-- those of a line, by side
unfoldable pub line_outlets : ConfiguredLevel → ConfiguredLine → List Outlet
line_outlets level line = end_outlets level line.id 1 line.end1 ++ end_outlets level line.id 2 line.end2

-- the injections' terminals, then those of the lines, in their orders
unfoldable pub outlets : ConfiguredNetwork → ConfiguredLevel → List Outlet
outlets network level = map (item_outlet level) level.items ++ flat_map (line_outlets level) network.lines

-- the level with its switches and terminals as in their records
unfoldable pub placed_level : ConfiguredNetwork → ConfiguredLevel → PlacedLevel
placed_level network level = record {
  id = level.id;
  nominal_v = level.nominal_v;
  low_v = None;
  high_v = None;
  buses = level.buses;
  joints = map (joint_of level) level.switches;
  outlets = outlets network level;
}

unfoldable pub placed_levels : ConfiguredNetwork → List PlacedLevel
placed_levels network = map (placed_level network) network.levels
