use Rattle.grid_json.proofs.MemberSlots.{vacant}
use Rattle.grid_json.proofs.slots.NodeSlotsSlots.empty.Goals as goal

pub returns : goal.returns
returns c = λ format. record { node1 = vacant; node2 = vacant }
