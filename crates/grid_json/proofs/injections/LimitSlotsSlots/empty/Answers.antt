use Rattle.grid_json.proofs.MemberSlots.{vacant}
use Rattle.grid_json.proofs.injections.LimitSlotsSlots.empty.Goals as goal

pub returns : goal.returns
returns c = λ format. record { min_p = vacant; max_p = vacant }
