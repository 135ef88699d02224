use Rattle.grid_json.proofs.MemberSlots.{vacant}
use Rattle.grid_json.proofs.slot.SlotSlots.empty.Goals as goal

pub returns : goal.returns
returns g c = λ format. vacant
