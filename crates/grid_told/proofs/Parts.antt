-- Terminals, buses and retained switches: their values are readable, and tell them.
use Rattle.std.proofs.Common.{◌≡◌, ℕ, List, [], ◌∷◌, map, refl, ap}
use Rattle.std.specs.Prelude.{IsUtf8, codes}
use Rattle.serde_json.specs.Data.{Data}
use Rattle.grid_level.specs.declared.Terminal.{Terminal}
use Rattle.grid_busview.specs.declared.ViewBus.{ViewBus}
use Rattle.grid_busbreaker.specs.declared.Bus.{Bus}
use Rattle.grid_busbreaker.specs.declared.ViewSwitch.{ViewSwitch}
use Rattle.grid_islands.specs.declared.BusComponent.{BusComponent}
use Rattle.grid_print.specs.Objects.{array_of, natural}
use Rattle.grid_print.proofs.Each.{each_of}
use Rattle.grid_jsonl.specs.Trees.{ordered}
use Rattle.grid_jsonl.specs.Parts.{terminal_value, view_bus_value, bus_value, switch_value, component_value}
use Rattle.grid_report.specs.Lines.{bus_name}
use Rattle.grid_told.specs.Held.{IsUnsigned, IsTerminal, IsViewBus, IsBus, IsViewSwitch}
use Rattle.grid_told.specs.Requested.{IsComponent}
use Rattle.grid_told.specs.Shapes.{IsReadable}
use Rattle.grid_told.proofs.Fields.{text_of, flag_of, natural_of, list_of, at}
use Rattle.grid_told.proofs.Readable.{text_readable, flag_readable, natural_readable, array_readable, ordered_readable}
use Rattle.grid_told.proofs.Sums.{sum_readable, sum_of, sum_back, name_utf8, least_in, least_back}

-- ---- readable

pub terminal_readable : (t : Terminal) → IsTerminal t → IsReadable 1 (terminal_value t)
unfolding terminal_value
terminal_readable t h = ordered_readable 0 _ refl (text_readable 0 t.equipment h.equipment, (natural_readable 0 t.side h.side, tt))

pub view_bus_readable : (level : List ℕ) → IsUtf8 level → (b : ViewBus) → IsViewBus b → IsReadable 3 (view_bus_value level b)
unfolding view_bus_value
view_bus_readable level id b h = ordered_readable 2 _ refl (
  text_readable 2 (bus_name level b.least) (name_utf8 level b.least id h.least),
  (
    array_readable IsUnsigned 1 natural (natural_readable 1) b.nodes (each_of IsUnsigned b.nodes h.nodes),
    (array_readable IsTerminal 1 terminal_value terminal_readable b.terminals (each_of IsTerminal b.terminals h.terminals), (sum_readable 2 b.load h.load, (sum_readable 2 b.generation h.generation, tt))),
  ),
)

pub bus_readable : (level : List ℕ) → IsUtf8 level → (b : Bus) → IsBus b → IsReadable 3 (bus_value level b)
unfolding bus_value
bus_readable level id b h = ordered_readable 2 _ refl (
  text_readable 2 (bus_name level b.least) (name_utf8 level b.least id h.least),
  (
    array_readable IsUnsigned 1 natural (natural_readable 1) b.nodes (each_of IsUnsigned b.nodes h.nodes),
    (array_readable IsTerminal 1 terminal_value terminal_readable b.terminals (each_of IsTerminal b.terminals h.terminals), tt),
  ),
)

pub switch_readable : (level : List ℕ) → IsUtf8 level → (s : ViewSwitch) → IsViewSwitch s → IsReadable 1 (switch_value level s)
unfolding switch_value
switch_readable level id s h = ordered_readable 0 _ refl (
  text_readable 0 s.id h.id,
  (flag_readable 0 s.opened, (text_readable 0 (bus_name level s.bus1) (name_utf8 level s.bus1 id h.bus1), (text_readable 0 (bus_name level s.bus2) (name_utf8 level s.bus2 id h.bus2), tt))),
)

pub component_readable : (level : List ℕ) → IsUtf8 level → (b : BusComponent) → IsComponent b → IsReadable 1 (component_value level b)
unfolding component_value
component_readable level id b h = ordered_readable 0 _ refl (
  text_readable 0 (bus_name level b.least) (name_utf8 level b.least id h.least),
  (natural_readable 0 b.component h.component, (natural_readable 0 b.size h.size, tt)),
)

-- ---- told

abbrev pub terminal_in : Data → Terminal
terminal_in d = record { equipment = text_of (at (codes "id") d); side = natural_of (at (codes "side") d) }

pub terminal_back : (t : Terminal) → terminal_in (terminal_value t) ≡ t
unfolding terminal_value ordered
terminal_back t = refl

abbrev naturals_in : Data → List ℕ
naturals_in d = map natural_of (list_of d)

naturals_back : (ns : List ℕ) → naturals_in (array_of natural ns) ≡ ns
naturals_back [] = refl
naturals_back (n ∷ ns) = ap (λ l. n ∷ l) (naturals_back ns)

abbrev pub terminals_in : Data → List Terminal
terminals_in d = map terminal_in (list_of d)

pub terminals_back : (ts : List Terminal) → terminals_in (array_of terminal_value ts) ≡ ts
terminals_back [] = refl
terminals_back (t ∷ ts) = rw (terminal_back t, terminals_back ts) refl

abbrev pub view_bus_in : List ℕ → Data → ViewBus
view_bus_in level d = record {
  least = least_in level (text_of (at (codes "id") d));
  nodes = naturals_in (at (codes "nodes") d);
  terminals = terminals_in (at (codes "terminals") d);
  load = sum_of (at (codes "load") d);
  generation = sum_of (at (codes "generation") d);
}

pub view_bus_back : (level : List ℕ) (b : ViewBus) → IsViewBus b → view_bus_in level (view_bus_value level b) ≡ b
unfolding view_bus_value ordered
view_bus_back level b h = rw (least_back level b.least h.least, naturals_back b.nodes, terminals_back b.terminals, sum_back b.load h.load, sum_back b.generation h.generation) refl

abbrev pub bus_in : List ℕ → Data → Bus
bus_in level d = record { least = least_in level (text_of (at (codes "id") d)); nodes = naturals_in (at (codes "nodes") d); terminals = terminals_in (at (codes "terminals") d) }

pub bus_back : (level : List ℕ) (b : Bus) → IsBus b → bus_in level (bus_value level b) ≡ b
unfolding bus_value ordered
bus_back level b h = rw (least_back level b.least h.least, naturals_back b.nodes, terminals_back b.terminals) refl

abbrev pub switch_in : List ℕ → Data → ViewSwitch
switch_in level d = record {
  id = text_of (at (codes "id") d);
  opened = flag_of (at (codes "open") d);
  bus1 = least_in level (text_of (at (codes "bus1") d));
  bus2 = least_in level (text_of (at (codes "bus2") d));
}

pub switch_back : (level : List ℕ) (s : ViewSwitch) → IsViewSwitch s → switch_in level (switch_value level s) ≡ s
unfolding switch_value ordered
switch_back level s h = rw (least_back level s.bus1 h.bus1, least_back level s.bus2 h.bus2) refl

abbrev pub component_in : List ℕ → Data → BusComponent
component_in level d = record { least = least_in level (text_of (at (codes "id") d)); component = natural_of (at (codes "component") d); size = natural_of (at (codes "size") d) }

pub component_back : (level : List ℕ) (b : BusComponent) → IsComponent b → component_in level (component_value level b) ≡ b
unfolding component_value ordered
component_back level b h = rw (least_back level b.least h.least) refl
