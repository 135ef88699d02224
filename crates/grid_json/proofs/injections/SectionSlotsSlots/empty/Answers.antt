use Rattle.grid_json.proofs.MemberSlots.{vacant}
use Rattle.grid_json.proofs.injections.SectionSlotsSlots.empty.Goals as goal

pub returns : goal.returns
returns c = λ format. record { section_count = vacant; max_sections = vacant }
