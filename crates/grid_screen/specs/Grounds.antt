-- The state before a fault, level by level.
use Rattle.std.specs.Prelude.{◌≡◌, ℕ, Bool, Some, List, length, map, slice_get}
use Rattle.std.specs.List.{zip}
use Rattle.grid_level.specs.declared.Switch.{Switch}
use Rattle.grid_level.specs.VoltageLevel.{VoltageLevel}
use Rattle.grid_states.specs.Rows.{row_at}
use Rattle.grid_structure.specs.Network.{Network}
use Rattle.grid_structure.specs.Sites.{levels}
use Rattle.grid_structure.specs.Soundness.{IsSound}
use Rattle.grid_outages.specs.Changes.{level_without}
use Rattle.grid_screen.specs.Zones.{passes_fault}

-- the network that is screened, its levels before the fault with the flags of their switches, true for open, and the
-- ids of the breakers that are stuck
pub record Ground : Type 0 where
  pub net : Network
  pub present : List VoltageLevel
  pub opened : List (List Bool)
  pub stuck : List (List ℕ)

abbrev pub ground : Network → List VoltageLevel → List (List Bool) → List (List ℕ) → Ground
ground net present opened stuck = record { net = net; present = present; opened = opened; stuck = stuck }

-- the levels are those of the network without some equipment, and each switch has a flag
pub record IsGround (g : Ground) : Type 0 where
  pub sound : IsSound g.net
  pub removed : List (List ℕ)
  pub left : g.present ≡ map (level_without removed) (levels g.net)
  pub rows : length g.opened ≡ length (levels g.net)
  pub flags : (k : ℕ) (l : VoltageLevel) → slice_get (levels g.net) k ≡ Some l → length (row_at g.opened k) ≡ length l.switches

abbrev pub with_flag_of : Switch × Bool → Switch
with_flag_of pair = record pair.0 { opened = pair.1 }

-- for each switch, whether a fault passes over it, where it has this flag opened
unfoldable pub fault_flags : List (List ℕ) → List Switch → List Bool → List Bool
fault_flags stuck switches opened = map (λ pair. passes_fault stuck (with_flag_of pair)) (zip switches opened)
