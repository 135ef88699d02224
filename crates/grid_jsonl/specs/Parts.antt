-- The parts of lines: terminals, buses and retained switches.
use Rattle.std.specs.Prelude.{ℕ, List, [], ◌∷◌, codes}
use Rattle.serde_json.specs.Data.{Data, boolean, string}
use Rattle.grid_level.specs.declared.Terminal.{Terminal}
use Rattle.grid_busview.specs.declared.ViewBus.{ViewBus}
use Rattle.grid_busbreaker.specs.declared.Bus.{Bus}
use Rattle.grid_busbreaker.specs.declared.ViewSwitch.{ViewSwitch}
use Rattle.grid_islands.specs.declared.BusComponent.{BusComponent}
use Rattle.grid_print.specs.Objects.{array_of, natural}
use Rattle.grid_report.specs.Lines.{bus_name}
use Rattle.grid_jsonl.specs.Trees.{ordered, sum_value}

unfoldable pub terminal_value : Terminal → Data
terminal_value t = ordered ((codes "id", string t.equipment) ∷ (codes "side", natural t.side) ∷ [])

-- a bus of a bus view of a level
unfoldable pub view_bus_value : List ℕ → ViewBus → Data
view_bus_value level b = ordered
    ((codes "id", string (bus_name level b.least))
    ∷ (codes "nodes", array_of natural b.nodes)
    ∷ (codes "terminals", array_of terminal_value b.terminals)
    ∷ (codes "load", sum_value b.load)
    ∷ (codes "generation", sum_value b.generation) ∷ [])

-- a bus of a bus/breaker view of a level
unfoldable pub bus_value : List ℕ → Bus → Data
bus_value level b = ordered
    ((codes "id", string (bus_name level b.least))
    ∷ (codes "nodes", array_of natural b.nodes)
    ∷ (codes "terminals", array_of terminal_value b.terminals) ∷ [])

-- a retained switch, between the buses at its two nodes
unfoldable pub switch_value : List ℕ → ViewSwitch → Data
switch_value level s = ordered
    ((codes "id", string s.id)
    ∷ (codes "open", boolean s.opened)
    ∷ (codes "bus1", string (bus_name level s.bus1))
    ∷ (codes "bus2", string (bus_name level s.bus2)) ∷ [])

-- a bus of a level, with its component
unfoldable pub component_value : List ℕ → BusComponent → Data
component_value level b = ordered
    ((codes "id", string (bus_name level b.least))
    ∷ (codes "component", natural b.component)
    ∷ (codes "size", natural b.size) ∷ [])
