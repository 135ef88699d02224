use Rattle.std.proofs.Common.{◌≡◌, sym, ◌∙◌, subst, length, ◌<◌, Some, Option}
use Rattle.grid_level.specs.VoltageLevel.{VoltageLevel}
use Rattle.grid_structure.specs.Sites.{levels}
use Rattle.grid_screen.proofs.WalkSteps.{got_below}
use Rattle.grid_screen.proofs.Clearings.{switch_read}
use Rattle.grid_screen.proofs.clearing.id_of.Goals as goal

pub level-requires : goal.level-requires
level-requires c = got_below (levels c.args.structure.now) c.args.at.now.level c.requires.level c.requires.there

pub switch-requires : goal.switch-requires
switch-requires c =
    let one : ◌≡◌ {A = Option VoltageLevel} (Some c.requires.level) (Some c.level.result.now) = sym c.requires.there ∙ c.level.ensures in
    let same : c.requires.level ≡ c.level.result.now = cc in
    subst (λ (z : VoltageLevel). c.args.at.now.place < length z.switches) same c.requires.inside

pub returns : goal.returns
returns c = switch_read c.args.structure.now c.args.at.now c.level.result.now c.switch.result.now c.level.ensures c.switch.ensures
