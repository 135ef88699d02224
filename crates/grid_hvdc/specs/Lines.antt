-- The lines of the components of a network with HVDC lines.
use Rattle.std.specs.Prelude.{ℕ, Bool, List, [], ◌∷◌, length, codes, map}
use Rattle.std.specs.List.{enumerate_from}
use Rattle.serde_json.specs.Data.{Data, string}
use Rattle.grid_structure.specs.Network.{Network}
use Rattle.grid_islands.specs.Islands.{NetworkBus, network_buses, bus_pairs}
use Rattle.grid_print.specs.Objects.{natural}
use Rattle.grid_print.specs.Job.{line_of}
use Rattle.grid_report.specs.Lines.{bus_name}
use Rattle.grid_jsonl.specs.Outcomes.{object_of_kind, variant_object}
use Rattle.grid_hvdc.specs.declared.HvdcLine.{HvdcLine}
use Rattle.grid_hvdc.specs.declared.HvdcNumber.{HvdcNumber}
use Rattle.grid_hvdc.specs.declared.buses.BusName.{BusName}
use Rattle.grid_hvdc.specs.Numbers.{hvdc_number}
use Rattle.grid_hvdc.specs.Stations.{hvdc_links}
use Rattle.grid_hvdc.specs.Texts.{level_name}

-- a bus of a variant by its name, with its components
unfoldable pub bus_object : List ℕ → List ℕ → ℕ → HvdcNumber → Data
bus_object variant level least n = object_of_kind (codes "bus")
    ((codes "variant", string variant)
    ∷ (codes "level", string level)
    ∷ (codes "bus", string (bus_name level least))
    ∷ (codes "connected_component", natural n.connected)
    ∷ (codes "connected_size", natural n.connected_size)
    ∷ (codes "synchronous_component", natural n.synchronous)
    ∷ (codes "synchronous_size", natural n.synchronous_size) ∷ [])

-- a bus by its number, where so many buses are joined by branches and by links
unfoldable pub numbered_object : List ℕ → Network → ℕ → List (ℕ × ℕ) → List (ℕ × ℕ) → ℕ × NetworkBus → Data
numbered_object variant net count branches links bus = bus_object variant (level_name net bus.1.0) bus.1.1.least (hvdc_number count branches links bus.0)

-- each bus, by place of level, then by least node
unfoldable pub bus_objects : List ℕ → Network → List (List Bool) → List (List Bool) → List HvdcLine → List Data
bus_objects variant net opened retained lines =
    let all = network_buses net opened retained in
    map (numbered_object variant net (length all) (bus_pairs net all) (hvdc_links net all lines)) (enumerate_from 0 all)

-- a variant, and its buses
unfoldable pub variant_objects : List ℕ → Network → List (List Bool) → List (List Bool) → List HvdcLine → List Data
variant_objects name net opened retained lines = variant_object name ∷ bus_objects name net opened retained lines

-- ---- the same by lists

-- the line of a bus of a variant by its name, with its components
abbrev pub named_bus_line : List ℕ → Network → BusName × HvdcNumber → List ℕ
named_bus_line variant net bus = line_of (bus_object variant (level_name net bus.0.level) bus.0.least bus.1)
