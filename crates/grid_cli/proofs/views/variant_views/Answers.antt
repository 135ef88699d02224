use Rattle.std.proofs.Common.{List, sym, subst, ap, ◌∙◌, ◌<◌, ◌^◌, [], ◌∷◌, ◌++◌, map, length, length-append, All, arith}
use Rattle.std.specs.Prelude.{◌-◌, slice_get}
use Rattle.std.proofs.lemmas.List.{take_all}
use Rattle.std.proofs.lemmas.List.Elements.{All-append, All-cons, All-nil}
use Rattle.grid_lemmas.proofs.Lists.{map_one_more}
use Rattle.grid_core.specs.History.{live}
use Rattle.grid_report.specs.declared.outcome.VariantView.{VariantView}
use Rattle.grid_report.specs.Histories.{variant_view, variant_views}
use Rattle.grid_cli.proofs.Shown.{last_shown}
use Rattle.grid_cli.proofs.views.variant_views.Goals as goal

pub loop-place-preserved : goal.loop-place-preserved
loop-place-preserved c = record {
  views =
      c.in_ok-push.ensures.ok ∙ ap (λ vs. vs ++ c.in_ok-view.view ∷ []) c.loop-place.invariant.views
      ∙ sym (map_one_more (variant_view c.args.world.now.origin c.args.world.now.steps) (live c.args.world.now.steps) c.loop-place.place c.in_ok-view.view c.in_ok-view.ensures.view);
  count = omega (arith, ap length c.in_ok-push.ensures.ok, length-append c.loop-place.views (c.in_ok-view.view ∷ []), c.loop-place.invariant.count);
  each =
      let few = λ (v : VariantView). length v.views < 2 ^ 32 in
      subst (All few) (sym c.in_ok-push.ensures.ok) (All-append few c.loop-place.views (c.in_ok-view.view ∷ []) c.loop-place.invariant.each (All-cons few c.in_ok-view.view [] c.in_ok-view.ensures.few (All-nil few)));
}

pub variant_view-requires-clause-earlier : goal.variant_view-requires-clause-earlier
variant_view-requires-clause-earlier c =
    last_shown c.args.world.now c.loop-place.views c.loop-place.place c.last.result c.loop-place.invariant.views
    (c.last.ensures.value ∙ ap (λ (vs : List VariantView). slice_get vs (length vs - 1)) c.slice.ensures)

pub returns-clause-views : goal.returns-clause-views
unfolding variant_views
returns-clause-views c =
    c.loop-place.invariant.views
    ∙ ap (map (variant_view c.args.world.now.origin c.args.world.now.steps)) (take_all c.loop-place.place (live c.args.world.now.steps) (omega (arith, c.variant_count-place-end.ensures, c.loop-place-test.false)))
