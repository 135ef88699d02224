-- What an outage of switches and equipment makes of a state.
use Rattle.std.specs.Prelude.{ℕ, Bool, not, ◌||◌, if◌then◌else◌, Option, List, find, fold, is_some}
use Rattle.grid_structure.specs.declared.Edit.TheVariants.{RemoveEquipment}
use Rattle.grid_structure.specs.Network.{Network}
use Rattle.grid_structure.specs.Sites.{find_switch, sides}
use Rattle.grid_requests.specs.declared.request.Request.{Request}
use Rattle.grid_requests.specs.declared.request.Request.TheVariants.{OpenSwitch, Change}
use Rattle.grid_core.specs.Solo.{State, solo}

-- a switch has the id
unfoldable pub is_switch : Network → List ℕ → Bool
is_switch net id = is_some (find_switch net id)

-- a switch or an equipment has the id
unfoldable pub is_known : Network → List ℕ → Bool
is_known net id = is_switch net id || is_some (sides net id)

-- the first id that is of no switch and of no equipment
unfoldable pub first_unknown : Network → List (List ℕ) → Option (List ℕ)
first_unknown net ids = find (λ id. not (is_known net id)) ids

-- a switch is opened, an equipment removed
unfoldable pub outage_request : Network → List ℕ → Request
outage_request net id = if is_switch net id then OpenSwitch id else Change (RemoveEquipment id)

-- the state after one id more is out, where ids were of switches or of equipment in this structure before the outage
unfoldable pub with_out : Network → State → List ℕ → State
with_out net state id = (solo state (outage_request net id)).0

-- the state after the ids are out, one after the other: a refusal leaves it as it is
unfoldable pub state_without : State → List (List ℕ) → State
state_without state ids = fold (with_out state.structure) state ids
