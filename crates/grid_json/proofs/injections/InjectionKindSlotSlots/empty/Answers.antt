use Rattle.grid_json.proofs.MemberSlots.{vacant}
use Rattle.grid_json.proofs.injections.InjectionKindSlotSlots.empty.Goals as goal

pub returns : goal.returns
returns c = λ format. record { kind = vacant }
