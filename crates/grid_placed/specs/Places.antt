-- A level with configured buses as it stands: its switches by the places of the buses that they join, and its terminals
-- by the places of the buses at which they stand.
use Rattle.std.specs.Prelude.{ℕ, ℤ, ◌<◌, Bool, false, not, ◌≡◌, Option, List, ◌∷◌, length, map, filter, take, drop, All}
use Rattle.grid_graph.specs.Joined.{group_of, least_nodes}
use Rattle.grid_graph.specs.Components.{places}
use Rattle.grid_level.specs.declared.Terminal.{Terminal}
use Rattle.grid_level.specs.declared.Stand.{Stand}
use Rattle.grid_level.specs.Passing.{is_busbar}

-- a switch, by the places of its two buses
pub record Joint : Type 0 where
  pub id : List ℕ
  pub place1 : ℕ
  pub place2 : ℕ
  pub opened : Bool

-- a terminal, by the place of its bus
pub record Outlet : Type 0 where
  pub terminal : Terminal
  pub place : ℕ
  pub connected : Bool
  pub stand : Stand

-- the buses by their places, the switches, and the terminals in their order
pub record PlacedLevel : Type 0 where
  pub id : List ℕ
  pub nominal_v : ℤ
  pub low_v : Option ℤ
  pub high_v : Option ℤ
  pub buses : List (List ℕ)
  pub joints : List Joint
  pub outlets : List Outlet

-- the places are those of buses, and no terminal is a busbar section
pub record PlacesFit (level : PlacedLevel) : Type 0 where
  pub joints : All (λ (s : Joint). (s.place1 < length level.buses) × (s.place2 < length level.buses)) level.joints
  pub outlets : All (λ (t : Outlet). (t.place < length level.buses) × (is_busbar t.stand ≡ false)) level.outlets

-- the two buses of each closed switch, by their places
unfoldable pub closed_pairs : PlacedLevel → List (ℕ × ℕ)
closed_pairs level = map (λ s. (s.place1, s.place2)) (filter (λ s. not s.opened) level.joints)

-- the places of the buses that are joined to one, rising
unfoldable pub joined_places : PlacedLevel → ℕ → List ℕ
joined_places level place = group_of (places (length level.buses)) (closed_pairs level) place

-- the places that are joined to no lesser one, rising
unfoldable pub first_places : PlacedLevel → List ℕ
first_places level = least_nodes (places (length level.buses)) (closed_pairs level)

-- ---- present flags

-- the switches, each in its present position, true for open
unfoldable pub with_opened : List Joint → List Bool → List Joint
with_opened (s ∷ rest) (flag ∷ flags) = record s { opened = flag } ∷ with_opened rest flags
with_opened switches flags = switches

-- the terminals, each as it is at present, true for connected
unfoldable pub with_connected : List Outlet → List Bool → List Outlet
with_connected (t ∷ rest) (flag ∷ flags) = record t { connected = flag } ∷ with_connected rest flags
with_connected outlets flags = outlets

-- the level with the present flags of its switches and terminals
unfoldable pub stood : PlacedLevel → List Bool → List Bool → PlacedLevel
stood level opened connected = record level { joints = with_opened level.joints opened; outlets = with_connected level.outlets connected }

-- the level where its switches, and behind them the breakers of its terminals, are in these positions, true for open: a
-- terminal is connected where its breaker is closed
unfoldable pub positioned : PlacedLevel → List Bool → PlacedLevel
positioned level opened = stood level (take (length level.joints) opened) (map not (drop (length level.joints) opened))
