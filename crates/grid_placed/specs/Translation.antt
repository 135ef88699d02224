-- A level with configured buses in node/breaker form: bus k is a busbar section at node k, the switches are retained
-- breakers between those nodes, and terminal j stands behind them, at the count of buses and j more, joined to its bus
-- by a breaker of its own, which is closed where it is connected.
use Rattle.std.specs.Prelude.{ℕ, true, false, not, List, [], ◌++◌, length, map, codes, decimal}
use Rattle.std.specs.List.{enumerate_from}
use Rattle.grid_kinds.specs.declared.SwitchKind.TheVariants.{Breaker}
use Rattle.grid_level.specs.declared.Switch.{Switch}
use Rattle.grid_level.specs.declared.Placed.{Placed}
use Rattle.grid_level.specs.declared.Terminal.{Terminal}
use Rattle.grid_level.specs.declared.Stand.TheVariants.{Busbar}
use Rattle.grid_level.specs.VoltageLevel.{VoltageLevel}
use Rattle.grid_placed.specs.Places.{Joint, Outlet, PlacedLevel}

-- a switch between two buses
unfoldable pub joint_breaker : Joint → Switch
joint_breaker s = record { id = s.id; kind = Breaker; node1 = s.place1; node2 = s.place2; opened = s.opened; retained = true; fictitious = false }

-- the id of a terminal's breaker
unfoldable pub breaker_id : Terminal → List ℕ
breaker_id t = t.equipment ++ codes "!" ++ decimal t.side

-- the breaker of a terminal at a node
unfoldable pub outlet_breaker : ℕ × Outlet → Switch
outlet_breaker at = record { id = breaker_id at.1.terminal; kind = Breaker; node1 = at.1.place; node2 = at.0; opened = not at.1.connected; retained = false; fictitious = false }

-- the terminal of a bus
abbrev pub bus_terminal : List ℕ → Terminal
bus_terminal id = record { equipment = id; side = 1 }

-- a bus at its node
unfoldable pub bus_section : ℕ × List ℕ → Placed
bus_section at = record { node = at.0; terminal = bus_terminal at.1; stand = Busbar }

-- a terminal at its node
unfoldable pub outlet_placed : ℕ × Outlet → Placed
outlet_placed at = record { node = at.0; terminal = at.1.terminal; stand = at.1.stand }

-- the terminals by their nodes
unfoldable pub outlets_at : PlacedLevel → List (ℕ × Outlet)
outlets_at level = enumerate_from (length level.buses) level.outlets

unfoldable pub translated_level : PlacedLevel → VoltageLevel
translated_level level = record {
  id = level.id;
  nominal_v = level.nominal_v;
  low_v = level.low_v;
  high_v = level.high_v;
  switches = map joint_breaker level.joints ++ map outlet_breaker (outlets_at level);
  internals = [];
  placed = map bus_section (enumerate_from 0 level.buses) ++ map outlet_placed (outlets_at level);
}
