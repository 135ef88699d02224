use Rattle.grid_json.proofs.MemberSlots.{vacant}
use Rattle.grid_json.proofs.injections.PowerSlotsSlots.empty.Goals as goal

pub returns : goal.returns
returns c = λ format. record { p0 = vacant; q0 = vacant }
