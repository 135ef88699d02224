-- Converter stations and the HVDC lines between them: in which buses they stand, and which buses the lines join.
use Rattle.std.specs.Prelude.{ℕ, pos, Bool, true, false, ◌&&◌, ◌==◌, if◌then◌else◌, Option, Some, None, List, [], ◌∷◌, flat_map, position, slice_get, option_and_then}
use Rattle.std.specs.List.{slice_index_or}
use Rattle.grid_kinds.specs.declared.Injection.{Injection}
use Rattle.grid_kinds.specs.declared.Injection.TheVariants.{Load, Generator, Battery, ShuntCompensator, StaticVarCompensator, ConverterStation}
use Rattle.grid_level.specs.declared.Placed.{Placed}
use Rattle.grid_level.specs.declared.Stand.{Stand}
use Rattle.grid_level.specs.declared.Stand.TheVariants.{Busbar, Feeder, BranchEnd}
use Rattle.grid_level.specs.Passing.{nodes, placed_at}
use Rattle.grid_structure.specs.Network.{Network}
use Rattle.grid_structure.specs.Sites.{levels, site}
use Rattle.grid_islands.specs.Islands.{NetworkBus, holds}
use Rattle.grid_islands.specs.Numbering.{number_of_node}
use Rattle.grid_hvdc.specs.declared.HvdcLine.{HvdcLine}

-- ---- stations

unfoldable pub is_station_item : Injection → Bool
is_station_item (Load p0 q0) = false
is_station_item (Generator target_p target_v min_p max_p) = false
is_station_item (Battery target_p target_q min_p max_p) = false
is_station_item (ShuntCompensator section_count max_sections) = false
is_station_item (StaticVarCompensator target_q) = false
is_station_item (ConverterStation target_q) = true

-- a converter station stands there
unfoldable pub is_station : Stand → Bool
is_station Busbar = false
is_station (Feeder item) = is_station_item item
is_station BranchEnd = false

abbrev pub carries_station : Option Placed → Bool
carries_station None = false
carries_station (Some placed) = is_station placed.stand

-- a converter station stands at a node of the level at a place
unfoldable pub is_station_at : Network → ℕ × ℕ → Bool
is_station_at net at = carries_station (option_and_then (λ level. placed_at level at.1) (slice_get (levels net) at.0))

-- the level's place, and the node at which the converter station of this id stands
unfoldable pub station_of : Network → List ℕ → Option (ℕ × ℕ)
station_of net id = option_and_then (λ at. if is_station_at net at then Some at else None) (site net id 1)

-- ---- links

-- the number of the bus in which the converter station of this id stands: that of its level which holds its node
unfoldable pub station_bus : Network → List NetworkBus → List ℕ → Option ℕ
station_bus net all id = option_and_then (λ at. position (λ b. (b.0 == at.0) && holds b.1.nodes (pos at.1)) all) (station_of net id)

-- the pair of two buses, where there are both and they differ
unfoldable pub link_between : Option ℕ → Option ℕ → List (ℕ × ℕ)
link_between None second = []
link_between (Some first) None = []
link_between (Some first) (Some second) = if first == second then [] else (first, second) ∷ []

-- an HVDC line joins the two buses in which its two stations stand
unfoldable pub line_links : Network → List NetworkBus → HvdcLine → List (ℕ × ℕ)
line_links net all line = link_between (station_bus net all line.station1) (station_bus net all line.station2)

unfoldable pub hvdc_links : Network → List NetworkBus → List HvdcLine → List (ℕ × ℕ)
hvdc_links net all lines = flat_map (line_links net all) lines

-- ---- the same by rows that have each node's bus

-- what the row of a station's level has for its node
unfoldable pub number_of_station : Network → List (List (Option ℕ)) → List ℕ → Option ℕ
number_of_station net rows id =
    option_and_then (λ at. option_and_then (λ level. number_of_node (nodes level) (slice_index_or rows at.0 []) (pos at.1)) (slice_get (levels net) at.0)) (station_of net id)

unfoldable pub links_of_line : Network → List (List (Option ℕ)) → HvdcLine → List (ℕ × ℕ)
links_of_line net rows line = link_between (number_of_station net rows line.station1) (number_of_station net rows line.station2)
