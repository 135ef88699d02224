-- What HVDC lines must keep: ids of their own, and converter stations that each one line alone names, on one side.
use Rattle.std.specs.Prelude.{ℕ, suc, ◌||◌, if◌then◌else◌, is_none, List, [], ◌∷◌, ◌++◌, map, flat_map, Result, Ok, Err, decimal, ⊤}
use Rattle.grid_ids.specs.Name.{has_id}
use Rattle.grid_json.specs.declared.fault.Fault.{Fault}
use Rattle.grid_json.specs.declared.fault.Reason.TheVariants.{HvdcIdTaken, NoStation, StationUsed}
use Rattle.grid_json.specs.Reading.{◌>>=◌, here, under}
use Rattle.grid_structure.specs.Network.{Network}
use Rattle.grid_structure.specs.Sites.{taken}
use Rattle.grid_hvdc.specs.declared.HvdcLine.{HvdcLine}
use Rattle.grid_hvdc.specs.Stations.{station_of}

-- nothing of the network and none of these ids is this one
unfoldable pub id_check : Network → List (List ℕ) → List ℕ → Result ⊤ Fault
id_check net ids id = if taken net id || has_id ids id then Err (here HvdcIdTaken) else Ok tt

-- a converter station has the id of a side, and none of these is it
unfoldable pub station_check : Network → ℕ → List (List ℕ) → List ℕ → Result ⊤ Fault
station_check net side used id =
    if is_none (station_of net id) then Err (here (NoStation side)) else (if has_id used id then Err (here (StationUsed side)) else Ok tt)

-- a line, where earlier ones have these ids and name these stations
unfoldable pub line_check : Network → List (List ℕ) → List (List ℕ) → HvdcLine → Result ⊤ Fault
line_check net ids used line = do
  _ ← id_check net ids line.id
  _ ← station_check net 1 used line.station1
  station_check net 2 (used ++ line.station1 ∷ []) line.station2

abbrev pub line_ids : List HvdcLine → List (List ℕ)
line_ids lines = map (λ line. line.id) lines

-- the stations that lines name
abbrev pub line_stations : List HvdcLine → List (List ℕ)
line_stations lines = flat_map (λ line. line.station1 ∷ line.station2 ∷ []) lines

-- each line in order behind the earlier ones, at its position
unfoldable pub lines_check : Network → List HvdcLine → ℕ → List HvdcLine → Result ⊤ Fault
lines_check net earlier i [] = Ok tt
lines_check net earlier i (line ∷ rest) = under (decimal i) (line_check net (line_ids earlier) (line_stations earlier) line) >>= λ _. lines_check net (earlier ++ line ∷ []) (suc i) rest
