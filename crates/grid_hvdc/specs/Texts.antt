-- What is written of the components of a network with HVDC lines, byte for byte.
use Rattle.std.specs.Prelude.{◌≡◌, ℕ, ◌<◌, Bool, List, [], ◌++◌, length, codes, decimal, flat_map, All}
use Rattle.std.specs.List.{enumerate_from, slice_index_or}
use Rattle.grid_structure.specs.Network.{Network}
use Rattle.grid_structure.specs.Sites.{levels, level_ids}
use Rattle.grid_islands.specs.Islands.{NetworkBus, network_buses, bus_pairs}
use Rattle.grid_report.specs.Lines.{bus_name}
use Rattle.grid_hvdc.specs.declared.HvdcLine.{HvdcLine}
use Rattle.grid_hvdc.specs.declared.HvdcNumber.{HvdcNumber}
use Rattle.grid_hvdc.specs.declared.buses.BusName.{BusName}
use Rattle.grid_hvdc.specs.Numbers.{hvdc_number, hvdc_numbers}
use Rattle.grid_hvdc.specs.Stations.{hvdc_links}

-- a component's number and size
abbrev pub component_text : ℕ → ℕ → List ℕ
component_text number size = codes " " ++ decimal number ++ codes " of " ++ decimal size ++ codes " buses"

-- a bus by its name, with its components
unfoldable pub hvdc_line : List ℕ → ℕ → HvdcNumber → List ℕ
hvdc_line level least n =
    bus_name level least ++ codes " connected" ++ component_text n.connected n.connected_size ++ codes " synchronous" ++ component_text n.synchronous n.synchronous_size ++ codes "\n"

-- the id of the level at a place
abbrev pub level_name : Network → ℕ → List ℕ
level_name net place = slice_index_or (level_ids net) place []

-- a bus by its number, where so many buses are joined by branches and by links
unfoldable pub bus_line : Network → ℕ → List (ℕ × ℕ) → List (ℕ × ℕ) → ℕ × NetworkBus → List ℕ
bus_line net count branches links bus = hvdc_line (level_name net bus.1.0) bus.1.1.least (hvdc_number count branches links bus.0)

-- the line of each bus, by place of level, then by least node
unfoldable pub hvdc_bus_lines : Network → List (List Bool) → List (List Bool) → List HvdcLine → List ℕ
hvdc_bus_lines net opened retained lines =
    let all = network_buses net opened retained in
    flat_map (bus_line net (length all) (bus_pairs net all) (hvdc_links net all lines)) (enumerate_from 0 all)

-- a variant's name, and the lines of its buses
unfoldable pub variant_text : List ℕ → Network → List (List Bool) → List (List Bool) → List HvdcLine → List ℕ
variant_text name net opened retained lines = codes "variant " ++ name ++ codes "\n" ++ hvdc_bus_lines net opened retained lines

-- ---- the same by lists

-- a bus by its name, with its components
abbrev pub named_line : Network → BusName × HvdcNumber → List ℕ
named_line net bus = hvdc_line (level_name net bus.0.level) bus.0.least bus.1

-- the components of the buses, in the order of their numbers
abbrev pub NumbersOf : Network → List NetworkBus → List HvdcLine → List HvdcNumber → Type 0
NumbersOf net all lines numbers = numbers ≡ hvdc_numbers (length all) (bus_pairs net all) (hvdc_links net all lines)

-- the levels of the buses are there
abbrev pub LevelsThere : Network → List BusName → Type 0
LevelsThere net names = All (λ name. name.level < length (levels net)) names
