-- What a live variant stands at, apart from its world.
use Rattle.std.specs.Prelude.{ℕ, if◌then◌else◌, Option, Some, None, List}
use Rattle.grid_structure.specs.Network.{Network}
use Rattle.grid_core.specs.declared.case.Case.{Case}
use Rattle.grid_core.specs.History.{Command, is_live}
use Rattle.grid_core.specs.Solo.{State, state_rows, powers_of}
use Rattle.grid_core.specs.Replies.{state_of}

-- the structure, what the variant has of each level, and the watts by id with their sums
unfoldable pub case_seen : State → Case
case_seen state = record { structure = state.structure; states = state_rows state; powers = powers_of state }

-- of the variant of a name after these steps; none where it is not live
unfoldable pub case_of : Network → List Command → List ℕ → Option Case
case_of origin steps name = if is_live steps name then Some (case_seen (state_of origin steps name)) else None
