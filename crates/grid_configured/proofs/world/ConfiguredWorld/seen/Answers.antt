use Rattle.std.proofs.Common.{◌≡◌, Some, sym, ap, ◌∙◌, subst, length}
use Rattle.std.proofs.lemmas.List.{length-map}
use Rattle.std.proofs.lemmas.Result.{IfOk-weaker}
use Rattle.grid_configured.specs.Viewed.{told_view, seen_at}
use Rattle.grid_busview.specs.Views.{record_watts}
use Rattle.grid_structure.specs.Network.{Network}
use Rattle.grid_core.specs.Fitting.{RowsFit}
use Rattle.grid_core.proofs.VariantViews.{fits_at}
use Rattle.grid_configured.proofs.WorldReadings.{now_structure, level_inside, seen_level}
use Rattle.grid_configured.proofs.world.ConfiguredWorld.seen.Goals as goal

pub level-level-requires : goal.level-level-requires
level-level-requires c = level_inside c.self.inside.network c.self.inside.world c.args.self.now c.self.view_is c.self.invariant c.structure.result.now c.structure.ensures c.args.place c.requires.inside

pub opened_row-requires : goal.opened_row-requires
opened_row-requires c =
    let rows = subst (λ (z : Network). RowsFit z c.args.states.now.opened) (sym (now_structure c.self.inside.network c.self.inside.world c.args.self.now c.self.view_is c.self.invariant c.structure.result.now c.structure.ensures)) c.requires.rows in
    (fits_at c.structure.result.now c.args.states.now.opened c.args.place c.level-level.result.now rows c.level-level.ensures).0

pub bus_view-requires-clause-states : goal.bus_view-requires-clause-states
bus_view-requires-clause-states c =
    let rows = subst (λ (z : Network). RowsFit z c.args.states.now.opened) (sym (now_structure c.self.inside.network c.self.inside.world c.args.self.now c.self.view_is c.self.invariant c.structure.result.now c.structure.ensures)) c.requires.rows in
    ap length c.opened_row.ensures ∙ (fits_at c.structure.result.now c.args.states.now.opened c.args.place c.level-level.result.now rows c.level-level.ensures).1

pub bus_view-requires-clause-powers : goal.bus_view-requires-clause-powers
unfolding record_watts
bus_view-requires-clause-powers c = ap length (c.slice.ensures ∙ c.in_ok-watts.ensures) ∙ length-map c.level-level.result.now.placed _

pub returns : goal.returns
returns c =
    IfOk-weaker c.tell_view.result (λ told. told ≡ told_view c.bus_total.result c.in_ok-view.view) (λ view. seen_at c.args.self.now.network c.args.states.now.opened c.args.place ≡ Some view)
    (λ told e. seen_level c.self.inside.network c.self.inside.world c.args.self.now c.self.view_is c.self.invariant c.structure.result.now c.structure.ensures c.args.place c.level-level.result.now c.level-level.ensures c.requires.inside c.args.states.now.opened c.opened_row.result.now c.slice.result.now c.in_ok-view.view c.bus_total.result
    c.opened_row.ensures (c.slice.ensures ∙ c.in_ok-watts.ensures) c.in_ok-view.ensures c.bus_total.ensures ∙ ap Some (sym e))
    c.tell_view.ensures
