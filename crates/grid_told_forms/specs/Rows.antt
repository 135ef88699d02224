-- What the lines of components over HVDC lines tell.
use Rattle.std.specs.Prelude.{ℕ, Bool, List, ◌∷◌, IsUtf8, All, length, map}
use Rattle.std.specs.List.{enumerate_from}
use Rattle.serde_json.specs.Data.{Data}
use Rattle.grid_structure.specs.Network.{Network}
use Rattle.grid_islands.specs.Islands.{NetworkBus, network_buses, bus_pairs}
use Rattle.grid_jsonl.specs.Outcomes.{variant_object}
use Rattle.grid_hvdc.specs.declared.HvdcLine.{HvdcLine}
use Rattle.grid_hvdc.specs.declared.HvdcNumber.{HvdcNumber}
use Rattle.grid_hvdc.specs.Numbers.{hvdc_number}
use Rattle.grid_hvdc.specs.Stations.{hvdc_links}
use Rattle.grid_hvdc.specs.Texts.{level_name}
use Rattle.grid_hvdc.specs.Lines.{bus_object}
use Rattle.grid_told.specs.Held.{IsUnsigned}

-- a bus by its level's id and its least node, with its components
pub record Row : Type 0 where
  pub level : List ℕ
  pub least : ℕ
  pub number : HvdcNumber

-- a variant's name, and its buses
pub record Variant : Type 0 where
  pub name : List ℕ
  pub rows : List Row

pub record IsRow (r : Row) : Type 0 where
  pub level : IsUtf8 r.level
  pub least : IsUnsigned r.least
  pub connected : IsUnsigned r.number.connected
  pub connected_size : IsUnsigned r.number.connected_size
  pub synchronous : IsUnsigned r.number.synchronous
  pub synchronous_size : IsUnsigned r.number.synchronous_size

pub record IsVariant (v : Variant) : Type 0 where
  pub name : IsUtf8 v.name
  pub rows : All IsRow v.rows

unfoldable pub row_object : List ℕ → Row → Data
row_object variant r = bus_object variant r.level r.least r.number

unfoldable pub row_objects : Variant → List Data
row_objects v = variant_object v.name ∷ map (row_object v.name) v.rows

-- the bus of a number, where so many buses are joined by branches and by links
unfoldable pub numbered_row : Network → ℕ → List (ℕ × ℕ) → List (ℕ × ℕ) → ℕ × NetworkBus → Row
numbered_row net count branches links bus = record { level = level_name net bus.1.0; least = bus.1.1.least; number = hvdc_number count branches links bus.0 }

-- the buses of a network with these flags
unfoldable pub rows_of : Network → List (List Bool) → List (List Bool) → List HvdcLine → List Row
rows_of net opened retained lines =
    let all = network_buses net opened retained in
    map (numbered_row net (length all) (bus_pairs net all) (hvdc_links net all lines)) (enumerate_from 0 all)
