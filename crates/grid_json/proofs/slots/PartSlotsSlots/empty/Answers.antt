use Rattle.grid_json.proofs.MemberSlots.{vacant}
use Rattle.grid_json.proofs.slots.PartSlotsSlots.empty.Goals as goal

pub returns : goal.returns
returns c = λ format. record { busbars = vacant; switches = vacant; internals = vacant; injections = vacant }
