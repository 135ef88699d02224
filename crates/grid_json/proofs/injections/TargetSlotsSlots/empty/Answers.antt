use Rattle.grid_json.proofs.MemberSlots.{vacant}
use Rattle.grid_json.proofs.injections.TargetSlotsSlots.empty.Goals as goal

pub returns : goal.returns
returns c = λ format. record { target_p = vacant; target_v = vacant; target_q = vacant }
