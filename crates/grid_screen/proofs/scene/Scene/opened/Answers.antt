use Rattle.std.proofs.Common.{sym, ap, ◌∙◌, length, arith}
use Rattle.grid_structure.specs.Sites.{levels}
use Rattle.grid_states.specs.Rows.{row_at}
use Rattle.grid_outages.specs.declared.outage.Changed.{Changed}
use Rattle.grid_screen.specs.Grounds.{Ground}
use Rattle.grid_outages.proofs.ShownLevels.{row_changed, row_kept}
use Rattle.grid_screen.proofs.scene.Scene.opened.Goals as goal

pub opened_row-requires : goal.opened_row-requires
opened_row-requires c =
    let few = ap (λ (z : Ground). length (levels z.net)) c.self.view_is in
    omega (arith, c.requires, few, c.self.invariant.0, c.self.invariant.1)

pub returns-in-Some : goal.returns-in-Some
returns-in-Some c =
    let changes = c.self.inside.changes in
    let few = ap (λ (z : Ground). length (levels z.net)) c.self.view_is in
    let here = sym c.in-Some.ensures in
    c.slice.ensures ∙ ap (λ (z : Changed). z.opened) c.deref.ensures ∙ sym (row_changed changes c.self.inside.states.now.opened c.args.place c.in-Some.changed.now (c.self.invariant.0 ∙ sym c.self.invariant.1) here) ∙ ap (λ (z : Ground). row_at z.opened c.args.place) c.self.view_is

pub returns-in-None : goal.returns-in-None
returns-in-None c =
    let changes = c.self.inside.changes in
    let few = ap (λ (z : Ground). length (levels z.net)) c.self.view_is in
    let here = sym c.in-None.ensures in
    c.opened_row.ensures ∙ sym (row_kept changes c.self.inside.states.now.opened c.args.place (c.self.invariant.0 ∙ sym c.self.invariant.1) here) ∙ ap (λ (z : Ground). row_at z.opened c.args.place) c.self.view_is
