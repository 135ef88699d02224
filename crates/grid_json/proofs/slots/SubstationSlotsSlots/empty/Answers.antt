use Rattle.grid_json.proofs.MemberSlots.{vacant}
use Rattle.grid_json.proofs.slots.SubstationSlotsSlots.empty.Goals as goal

pub returns : goal.returns
returns c = λ format. record { id = vacant; levels = vacant; transformers = vacant }
