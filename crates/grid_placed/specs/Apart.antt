-- What the bus/breaker view of a level in node/breaker form shows of its configured buses and terminals.
use Rattle.std.specs.Prelude.{ℕ, not, List, [], ◌∷◌, ◌++◌, map, filter}
use Rattle.std.specs.List.{enumerate_from}
use Rattle.grid_busbreaker.specs.declared.Bus.{Bus}
use Rattle.grid_busbreaker.specs.declared.ViewSwitch.{ViewSwitch}
use Rattle.grid_busbreaker.specs.declared.BusBreakerView.{BusBreakerView}
use Rattle.grid_placed.specs.Places.{Joint, Outlet, PlacedLevel}
use Rattle.grid_placed.specs.Translation.{bus_terminal, outlets_at}
use Rattle.grid_placed.specs.Views.{outlets_among, nodes_among}

-- a configured bus alone, by its place, with its connected terminals
unfoldable pub bus_alone : PlacedLevel → ℕ × List ℕ → Bus
bus_alone level at = record {
  least = at.0;
  nodes = at.0 ∷ nodes_among level (at.0 ∷ []);
  terminals = bus_terminal at.1 ∷ map (λ t. t.terminal) (outlets_among level (at.0 ∷ []));
}

-- a terminal alone at its node
unfoldable pub outlet_alone : ℕ × Outlet → Bus
outlet_alone at = record { least = at.0; nodes = at.0 ∷ []; terminals = at.1.terminal ∷ [] }

-- a switch with the places of its two buses
unfoldable pub joint_shown : Joint → ViewSwitch
joint_shown s = record { id = s.id; opened = s.opened; bus1 = s.place1; bus2 = s.place2 }

-- each configured bus by place, then each terminal that is not connected; and the switches between buses
unfoldable pub apart_view : PlacedLevel → BusBreakerView
apart_view level = record {
  level = level.id;
  buses = map (bus_alone level) (enumerate_from 0 level.buses) ++ map outlet_alone (filter (λ e. not e.1.connected) (outlets_at level));
  switches = map joint_shown level.joints;
}
