-- The place of a configured bus is its position in the list of its level's buses.
use Rattle.std.specs.Prelude.{◌≡◌, ℕ, true, not, List, [], ◌++◌, Some, Ok, map, position}
use Rattle.std.specs.List.{enumerate_from, list_all}
use Rattle.grid_ids.specs.Name.{same_id}
use Rattle.grid_level.specs.declared.Placed.{Placed}
use Rattle.grid_level.specs.VoltageLevel.{VoltageLevel}
use Rattle.grid_level.specs.Passing.{is_busbar}
use Rattle.grid_placed.specs.Translation.{bus_section}
use Rattle.grid_structure.specs.Network.{Network}
use Rattle.grid_structure.specs.Sites.{level_named}
use Rattle.grid_json.specs.Loading.{bus_place, buses_load}

-- where a level's busbar sections are these buses, and no terminal behind them is one
abbrev pub PlacesArePositions : Type 0
PlacesArePositions = (level : VoltageLevel) (buses : List (List ℕ)) (terminals : List Placed) (bus : List ℕ) → level.placed ≡ map bus_section (enumerate_from 0 buses) ++ terminals → list_all (λ p. not (is_busbar p.stand)) terminals ≡ true
    → bus_place level bus ≡ position (same_id bus) buses

-- where the buses of a level are loaded, they are its busbar sections
abbrev pub BusesAreSections : Type 0
BusesAreSections = (net new : Network) (level : List ℕ) (old : VoltageLevel) (buses : List (List ℕ)) → level_named net level ≡ Some old → old.placed ≡ [] → buses_load 0 buses level net ≡ Ok new
    → level_named new level ≡ Some (record old { placed = map bus_section (enumerate_from 0 buses) })
