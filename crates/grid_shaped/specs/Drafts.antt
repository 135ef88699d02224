-- The placed level that a draft of a network gives for one of its levels with configured buses: the buses by place, the
-- switches by the places of their two buses, and the terminals, each with the place of its bus.
use Rattle.std.specs.Prelude.{ℕ, if◌then◌else◌, List, [], ◌∷◌, ◌++◌, length, map, flat_map, position, unwrap_or}
use Rattle.std.specs.List.{enumerate_from}
use Rattle.grid_ids.specs.Name.{same_id}
use Rattle.grid_level.specs.declared.Stand.TheVariants.{Feeder, BranchEnd}
use Rattle.grid_placed.specs.Places.{Joint, Outlet, PlacedLevel}
use Rattle.grid_json.specs.declared.buses.BusSwitch.{BusSwitch}
use Rattle.grid_json.specs.declared.buses.BusInjection.{BusInjection}
use Rattle.grid_json.specs.declared.buses.BusLevelDraft.{BusLevelDraft}
use Rattle.grid_json.specs.declared.buses.BusEnd.{BusEnd}
use Rattle.grid_json.specs.declared.buses.EndDraft.{EndDraft}
use Rattle.grid_json.specs.declared.buses.EndDraft.TheVariants as ends
use Rattle.grid_json.specs.declared.network.Windings.{Windings}
use Rattle.grid_json.specs.declared.network.Windings.TheVariants as shapes
use Rattle.grid_json.specs.declared.network.TransformerDraft.{TransformerDraft}
use Rattle.grid_json.specs.declared.network.LineDraft.{LineDraft}
use Rattle.grid_json.specs.declared.network.SubstationDraft.{SubstationDraft}
use Rattle.grid_json.specs.declared.network.NetworkDraft.{NetworkDraft}

-- the position of a bus, and past all buses where it is none of them
unfoldable pub place_among : List (List ℕ) → List ℕ → ℕ
place_among buses bus = unwrap_or (position (same_id bus) buses) (length buses)

-- ---- switches and injections

abbrev pub joint_of : List (List ℕ) → BusSwitch → Joint
joint_of buses s = record { id = s.id; place1 = place_among buses s.bus1; place2 = place_among buses s.bus2; opened = s.opened }

abbrev pub injection_outlet : List (List ℕ) → BusInjection → Outlet
injection_outlet buses i = record { terminal = record { equipment = i.id; side = 1 }; place = place_among buses i.bus; connected = i.connected; stand = Feeder i.item }

-- ---- ends of branches

-- the terminal of a branch's end on this side
abbrev pub end_outlet : List (List ℕ) → List ℕ → ℕ → BusEnd → Outlet
end_outlet buses id side e = record { terminal = record { equipment = id; side = side }; place = place_among buses e.bus; connected = e.connected; stand = BranchEnd }

-- the terminal, where the end is by bus in this level
abbrev pub end_outlets : BusLevelDraft → List ℕ → ℕ → EndDraft → List Outlet
end_outlets level id side (ends.Node e) = []
end_outlets level id side (ends.Bus e) = if same_id level.id e.level then end_outlet level.buses id side e ∷ [] else []

-- the terminals of a branch in this level, by side
unfoldable pub branch_outlets : BusLevelDraft → List ℕ → List EndDraft → List Outlet
branch_outlets level id those = flat_map (λ at. end_outlets level id at.0 at.1) (enumerate_from 1 those)

abbrev pub windings_ends : Windings → List EndDraft
windings_ends (shapes.Two those rated) = those.first ∷ those.second ∷ []
windings_ends (shapes.Three those rated) = those.first ∷ those.second ∷ those.third ∷ []

abbrev pub transformer_outlets : BusLevelDraft → TransformerDraft → List Outlet
transformer_outlets level t = branch_outlets level t.id (windings_ends t.windings)

abbrev pub line_outlets : BusLevelDraft → LineDraft → List Outlet
line_outlets level l = branch_outlets level l.id (l.ends.first ∷ l.ends.second ∷ [])

-- ---- the level

-- the level with these switches and terminals
abbrev pub placed_with : BusLevelDraft → List Joint → List Outlet → PlacedLevel
placed_with level joints outlets = record {
  id = level.id;
  nominal_v = level.nominal_v;
  low_v = level.low_v;
  high_v = level.high_v;
  buses = level.buses;
  joints = joints;
  outlets = outlets;
}

-- the injections by list, then the ends by bus of the substation's transformers, by list and side, then those of the
-- lines, by list and side
unfoldable pub outlets_of : NetworkDraft → SubstationDraft → BusLevelDraft → List Outlet
outlets_of net substation level =
    map (injection_outlet level.buses) level.injections
    ++ (flat_map (transformer_outlets level) substation.transformers ++ flat_map (line_outlets level) net.lines)

-- of a level of this substation
unfoldable pub placed_level : NetworkDraft → SubstationDraft → BusLevelDraft → PlacedLevel
placed_level net substation level = placed_with level (map (joint_of level.buses) level.switches) (outlets_of net substation level)
