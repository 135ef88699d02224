use Rattle.std.proofs.Common.{sym}
use Rattle.std.specs.Prelude.{map}
use Rattle.grid_level.specs.declared.Switch.{Switch}
use Rattle.grid_structure.proofs.Counts.{differ-times}
use Rattle.grid_structure.proofs.BranchRemovals.{place_sure}
use Rattle.grid_structure.proofs.finding.place_of_switch.Goals as goal

pub returns-in-Some : goal.returns-in-Some
returns-in-Some c =
    sym (place_sure (λ (s : Switch). s.id) c.args.id.now c.args.switches.now c.in-Some.place (differ-times (map (λ (s : Switch). s.id) c.args.switches.now) c.requires c.args.id.now) c.in-Some.ensures)
