use Rattle.grid_json.proofs.MemberSlots.{vacant}
use Rattle.grid_json.proofs.slots.NetworkSlotsSlots.empty.Goals as goal

pub returns : goal.returns
returns c = λ format. record { id = vacant; substations = vacant; lines = vacant }
