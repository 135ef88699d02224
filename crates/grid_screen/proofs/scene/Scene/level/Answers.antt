use Rattle.std.proofs.Common.{◌<◌, sym, ap, ◌∙◌, length, arith, Some}
use Rattle.std.specs.Prelude.{slice_get}
use Rattle.grid_structure.specs.Sites.{levels}
use Rattle.grid_level.specs.VoltageLevel.{VoltageLevel}
use Rattle.grid_outages.specs.declared.outage.Changed.{Changed}
use Rattle.grid_screen.specs.Grounds.{Ground}
use Rattle.grid_outages.proofs.ShownLevels.{level_changed, level_kept}
use Rattle.grid_screen.proofs.scene.Scene.level.Goals as goal

pub returns-in-Some : goal.returns-in-Some
returns-in-Some c =
    let changes = c.self.inside.changes in
    let ls = levels c.self.inside.structure.now in
    let few = ap (λ (z : Ground). length (levels z.net)) c.self.view_is in
    let lt : c.args.place < length ls = omega (arith, c.requires, few) in
    let here = sym c.in-Some.ensures in
    ap (λ (z : Ground). slice_get z.present c.args.place) (sym c.self.view_is) ∙ level_changed changes ls c.args.place c.in-Some.changed.now c.self.invariant.0 lt here
    ∙ ap (λ (z : VoltageLevel). Some z) (sym (c.level.ensures ∙ ap (λ (z : Changed). z.level) c.deref.ensures))

pub returns-in-None : goal.returns-in-None
returns-in-None c =
    let changes = c.self.inside.changes in
    let ls = levels c.self.inside.structure.now in
    let few = ap (λ (z : Ground). length (levels z.net)) c.self.view_is in
    let lt : c.args.place < length ls = omega (arith, c.requires, few) in
    let here = sym c.in-None.ensures in
    ap (λ (z : Ground). slice_get z.present c.args.place) (sym c.self.view_is) ∙ level_kept changes ls c.args.place c.level-in-None.result.now c.self.invariant.0 c.level-in-None.ensures here
