use Rattle.grid_json.proofs.MemberSlots.{vacant}
use Rattle.grid_json.proofs.slots.VoltageSlotsSlots.empty.Goals as goal

pub returns : goal.returns
returns c = λ format. record { id = vacant; nominal_v = vacant; low_v = vacant; high_v = vacant }
