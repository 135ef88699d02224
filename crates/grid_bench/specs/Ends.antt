-- What the labels of a level rest on beside its flags.
use Rattle.std.specs.Prelude.{◌≡◌, ◌<◌, ℕ, List, length, map, get_or}
use Rattle.grid_level.specs.declared.Switch.{Switch}
use Rattle.grid_level.specs.VoltageLevel.{VoltageLevel}
use Rattle.grid_level.specs.Passing as passing
use Rattle.grid_level.specs.Passing.{nodes}

-- the numbers are counted from 0 without a gap
abbrev pub IsGapless : List ℕ → Type 0
IsGapless ns = (i : ℕ) → i < length ns → get_or ns i 0 ≡ i

-- the two nodes of each switch
abbrev pub all_ends : List Switch → List (ℕ × ℕ)
all_ends switches = map passing.switch_ends switches

-- both levels have the same nodes, and their switches and internal connections stand between the same ones
pub record SameEnds (level other : VoltageLevel) : Type 0 where
  pub same_nodes : nodes level ≡ nodes other
  pub same_switches : all_ends level.switches ≡ all_ends other.switches
  pub same_internals : level.internals ≡ other.internals
