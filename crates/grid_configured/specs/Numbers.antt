-- The places of levels and the nodes of buses, by their ids.
use Rattle.std.specs.Prelude.{◌≡◌, ℕ, ◌+◌, true, if◌then◌else◌, Option, Some, None, List, [], ◌∷◌, ◌++◌, map, slice_get}
use Rattle.std.specs.List.{enumerate_from}
use Rattle.std.specs.Map.{lookup}
use Rattle.std.specs.Str.{bytes_eq}
use Rattle.grid_ids.specs.Name.{has_id}
use Rattle.grid_configured.specs.declared.network.ConfiguredLevel.{ConfiguredLevel}
use Rattle.grid_configured.specs.Levels.{bus_place}

unfoldable pub number_at : List (List ℕ × ℕ) → List ℕ → Option ℕ
number_at table id = lookup (bytes_eq id) table

-- the number of an id behind some more pairs of an id and a number
unfoldable pub numbered : List (List ℕ × ℕ) → Option ℕ → List ℕ → Option ℕ
numbered [] before id = before
numbered (p ∷ pairs) before id = numbered pairs (if bytes_eq p.0 id then Some p.1 else before) id

-- each bus has its place
unfoldable pub bus_numbers : List (List ℕ) → List (List ℕ × ℕ)
bus_numbers buses = map (λ e. (e.1, e.0)) (enumerate_from 0 buses)

-- each level has its place, and each bus its place in its level
unfoldable pub level_numbers : ℕ → List ConfiguredLevel → List (List ℕ × ℕ)
level_numbers place [] = []
level_numbers place (l ∷ levels) = (l.id, place) ∷ (bus_numbers l.buses ++ level_numbers (place + 1) levels)

-- a table has the numbers of some buses
abbrev pub HasBuses : List (List ℕ × ℕ) → List (List ℕ) → Type 0
HasBuses table buses = (id : List ℕ) → has_id buses id ≡ true → number_at table id ≡ Some (bus_place buses id)

-- a table has the numbers of some levels and of their buses
pub record HasLevels (table : List (List ℕ × ℕ)) (levels : List ConfiguredLevel) : Type 0 where
  pub places : (place : ℕ) (level : ConfiguredLevel) → slice_get levels place ≡ Some level → number_at table level.id ≡ Some place
  pub buses : (place : ℕ) (level : ConfiguredLevel) → slice_get levels place ≡ Some level → HasBuses table level.buses
