-- What a bus view rests on beside the ends, the flags and the watts.
use Rattle.std.specs.Prelude.{◌≡◌}
use Rattle.grid_level.specs.VoltageLevel.{VoltageLevel}

-- both levels have the same id, and the same terminals stand at their nodes
pub record LookSame (level other : VoltageLevel) : Type 0 where
  pub same_id : level.id ≡ other.id
  pub same_placed : level.placed ≡ other.placed
