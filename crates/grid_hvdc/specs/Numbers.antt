-- The connected and the synchronous component of each bus.
use Rattle.std.specs.Prelude.{◌≡◌, ℕ, ◌<◌, ◌++◌, List, length, map, slice_index}
use Rattle.grid_graph.specs.Components.{places, component_of, component_number}
use Rattle.grid_graph.specs.Graph.{EndsBelow}
use Rattle.grid_islands.specs.Islands.{NetworkBus, component_at}
use Rattle.grid_hvdc.specs.declared.HvdcNumber.{HvdcNumber}
use Rattle.grid_hvdc.specs.declared.numbers.Component.{Component}

-- the components of a bus: over the branches and the links, and over the branches alone
unfoldable pub hvdc_number : ℕ → List (ℕ × ℕ) → List (ℕ × ℕ) → ℕ → HvdcNumber
hvdc_number count branches links bus = record {
  connected = component_number count (branches ++ links) bus;
  connected_size = length (component_of count (branches ++ links) bus);
  synchronous = component_number count branches bus;
  synchronous_size = length (component_of count branches bus);
}

-- those of each bus
unfoldable pub hvdc_numbers : ℕ → List (ℕ × ℕ) → List (ℕ × ℕ) → List HvdcNumber
hvdc_numbers count branches links = map (hvdc_number count branches links) (places count)

-- ---- laws

-- two buses of one synchronous component are of one connected component
abbrev pub SynchronousAreConnected : Type 0
SynchronousAreConnected =
    (count : ℕ) (branches links : List (ℕ × ℕ)) → EndsBelow branches count → EndsBelow links count → (a b : ℕ) → a < count → b < count
    → (hvdc_number count branches links a).synchronous ≡ (hvdc_number count branches links b).synchronous
    → (hvdc_number count branches links a).connected ≡ (hvdc_number count branches links b).connected

-- the synchronous component of a bus is the one that `components` tells of it
abbrev pub SynchronousIsTold : Type 0
SynchronousIsTold =
    (count : ℕ) (branches links : List (ℕ × ℕ)) (bus : ℕ × NetworkBus)
    → ((component_at count branches bus).component ≡ (hvdc_number count branches links bus.0).synchronous)
    × ((component_at count branches bus).size ≡ (hvdc_number count branches links bus.0).synchronous_size)

-- ---- components by list

-- a number with its size
abbrev pub sized : List ℕ → ℕ → Component
sized sizes number = record { number = number; size = slice_index sizes number }

-- the component of a bus among so many that these pairs join
abbrev pub sized_at : ℕ → List (ℕ × ℕ) → ℕ → Component
sized_at count pairs bus = record { number = component_number count pairs bus; size = length (component_of count pairs bus) }

-- the connected and the synchronous component of a bus
abbrev pub side_by_side : Component × Component → HvdcNumber
side_by_side pair = record { connected = pair.0.number; connected_size = pair.0.size; synchronous = pair.1.number; synchronous_size = pair.1.size }
