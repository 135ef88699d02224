use Rattle.grid_json.proofs.MemberSlots.{vacant}
use Rattle.grid_json.proofs.slots.KindSlotsSlots.empty.Goals as goal

pub returns : goal.returns
returns c = λ format. record { id = vacant; kind = vacant }
