use Rattle.grid_json.proofs.MemberSlots.{vacant}
use Rattle.grid_json.proofs.slots.FlagSlotsSlots.empty.Goals as goal

pub returns : goal.returns
returns c = λ format. record { opened = vacant; retained = vacant; fictitious = vacant }
