use Rattle.grid_json.proofs.MemberSlots.{vacant}
use Rattle.grid_json.proofs.slots.EndSlotsSlots.empty.Goals as goal

pub returns : goal.returns
returns c = λ format. record { level = vacant; node = vacant }
