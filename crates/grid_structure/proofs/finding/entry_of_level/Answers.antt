use Rattle.std.proofs.Common.{◌∙◌, sym}
use Rattle.std.specs.Prelude.{map}
use Rattle.grid_level.specs.VoltageLevel.{VoltageLevel}
use Rattle.grid_structure.proofs.Counts.{differ-times}
use Rattle.grid_structure.proofs.BranchRemovals.{place_sure}
use Rattle.grid_structure.proofs.finding.entry_of_level.Goals as goal

pub returns-in-Some : goal.returns-in-Some
returns-in-Some c =
    let once = differ-times (map (λ (l : VoltageLevel). l.id) c.args.levels.now) c.requires.differ c.args.id.now in
    let sure = place_sure (λ (l : VoltageLevel). l.id) c.args.id.now c.args.levels.now c.in-Some.field-0 once c.in-Some.ensures.named in
    c.in-Some.ensures.place ∙ sym sure ∙ c.requires.found
