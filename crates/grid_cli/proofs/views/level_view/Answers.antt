use Rattle.std.proofs.Common.{◌<◌, refl, sym, ap, ◌∙◌, subst, length, Some, List}
use Rattle.std.specs.Prelude.{slice_get}
use Rattle.std.proofs.lemmas.Option.{slice_get_read}
use Rattle.grid_structure.specs.Network.{Network}
use Rattle.grid_structure.specs.Sites.{levels}
use Rattle.grid_busview.specs.declared.BusView.{BusView}
use Rattle.grid_core.specs.Replies.{state_of}
use Rattle.grid_core.proofs.MachineSteps.{each_ok}
use Rattle.grid_cli.proofs.Shown.{row_within, shown_within, pairs_standing, taken_over}
use Rattle.grid_cli.proofs.views.level_view.Goals as goal

pub is_alike-requires-clause-one : goal.is_alike-requires-clause-one
is_alike-requires-clause-one c = row_within c.args.both.now.world.now c.args.both.now.name.now c.args.both.now.own.now c.args.place c.requires.both.own c.requires.place

pub is_alike-requires-clause-other : goal.is_alike-requires-clause-other
is_alike-requires-clause-other c = row_within c.args.both.now.world.now c.args.both.now.earlier.now.name c.args.both.now.other.now c.args.place c.requires.both.other c.requires.place

pub bounds-slice-place : goal.bounds-slice-place
bounds-slice-place c =
    subst (λ (views : List BusView). c.args.place < length views) (sym c.slice.ensures)
    (shown_within c.args.both.now.world.now c.args.both.now.earlier.now c.args.place c.requires.both.shown c.requires.place)

pub returns-then-is_alike : goal.returns-then-is_alike
returns-then-is_alike c =
    let below : c.args.place < length c.slice.result.now =
    subst (λ (views : List BusView). c.args.place < length views) (sym c.slice.ensures) (shown_within c.args.both.now.world.now c.args.both.now.earlier.now c.args.place c.requires.both.shown c.requires.place) in
    let at = ap (λ (net : Network). slice_get (levels net) c.args.place) (sym c.structure.ensures) ∙ c.level.ensures in
    let alike = c.is_alike.ensures (state_of c.args.both.now.world.now.origin c.args.both.now.world.now.steps c.args.both.now.name.now).powers (state_of c.args.both.now.world.now.origin c.args.both.now.world.now.steps c.args.both.now.earlier.now.name).powers
    (pairs_standing c.args.both.now.world.now c.args.both.now.name.now c.args.both.now.own.now c.args.place c.level.result.now c.requires.both.own at) (pairs_standing c.args.both.now.world.now c.args.both.now.earlier.now.name c.args.both.now.other.now c.args.place c.level.result.now c.requires.both.other at) in
    each_ok c.copy.result c.copy.ensures
    (λ view is. taken_over c.args.both.now.world.now c.args.both.now.name.now c.args.both.now.own.now c.args.both.now.earlier.now c.args.both.now.other.now c.args.place c.level.result.now view c.requires.both.own c.requires.both.other c.requires.both.shown c.requires.place at (alike.0 c.if-is_alike.true)
    (ap (λ (views : List BusView). slice_get views c.args.place) (sym c.slice.ensures)
    ∙ slice_get_read c.slice.result.now (length c.slice.result.now) c.args.place c.index-slice-place.result refl below c.index-slice-place.is ∙ ap (λ (v : BusView). Some v) (sym is)))
