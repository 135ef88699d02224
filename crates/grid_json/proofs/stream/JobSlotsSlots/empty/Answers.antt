use Rattle.grid_json.proofs.MemberSlots.{vacant}
use Rattle.grid_json.proofs.stream.JobSlotsSlots.empty.Goals as goal

pub returns : goal.returns
returns c = λ format. record { format = vacant; network = vacant; listeners = vacant; workers = vacant; order = vacant }
