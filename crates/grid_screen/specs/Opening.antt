-- The breakers that trip and the equipment that is removed, by what a walk has hit.
use Rattle.std.specs.Prelude.{◌≡◌, ℕ, Some, List, map, filter, flat_map, slice_get}
use Rattle.std.specs.List.{enumerate_from}
use Rattle.grid_level.specs.declared.Placed.{Placed}
use Rattle.grid_level.specs.VoltageLevel.{VoltageLevel}
use Rattle.grid_level.specs.Passing.{positioned}
use Rattle.grid_states.specs.Rows.{row_at}
use Rattle.grid_structure.specs.declared.SwitchAt.{SwitchAt}
use Rattle.grid_structure.specs.Network.{Network}
use Rattle.grid_structure.specs.Sites.{levels}
use Rattle.grid_screen.specs.declared.walk.Touched.{Touched}
use Rattle.grid_screen.specs.Faults.{trips, spots_that}
use Rattle.grid_screen.specs.Grounds.{Ground}
use Rattle.grid_screen.specs.Walks.{Touches, hits, hits_in, IsSwitchOf}
use Rattle.grid_screen.specs.Zones.{site_at}

-- those of the level at a place that was looked at
unfoldable pub level_trips : Ground → List (List ℕ) → ℕ → Touched → List SwitchAt
level_trips g hit place t = spots_that (trips g.stuck hit (hits_in t)) place (positioned t.level.now (row_at g.opened place)).switches

unfoldable pub trips_at : Ground → List (List ℕ) → Touches → ℕ × VoltageLevel → List SwitchAt
trips_at g hit touched at = spots_that (trips g.stuck hit (λ node. hits touched (site_at at.0 node))) at.0 (positioned at.1 (row_at g.opened at.0)).switches

-- those of all levels
unfoldable pub network_trips : Ground → List (List ℕ) → Touches → List SwitchAt
network_trips g hit touched = flat_map (trips_at g hit touched) (enumerate_from 0 (levels g.net))

abbrev pub AreSwitches : Network → List SwitchAt → Type 0
AreSwitches net list = (i : ℕ) (at : SwitchAt) → slice_get list i ≡ Some at → IsSwitchOf net at

-- the equipment of these terminals of a level that was looked at
unfoldable pub equipment_hit : Touched → List Placed → List (List ℕ)
equipment_hit t placed = map (λ p. p.terminal.equipment) (filter (λ p. hits_in t p.node) placed)

unfoldable pub equipment_at : Touches → ℕ × VoltageLevel → List (List ℕ)
equipment_at touched at = map (λ p. p.terminal.equipment) (filter (λ p. hits touched (site_at at.0 p.node)) at.1.placed)

-- that of all levels
unfoldable pub network_equipment : Ground → Touches → List (List ℕ)
network_equipment g touched = flat_map (equipment_at touched) (enumerate_from 0 g.present)
