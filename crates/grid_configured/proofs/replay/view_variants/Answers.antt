use Rattle.std.proofs.Common.{sym, ap, ◌∙◌, [], ◌∷◌, ◌++◌, map, arith}
use Rattle.std.proofs.lemmas.List.{take_all}
use Rattle.grid_lemmas.proofs.Lists.{map_one_more}
use Rattle.grid_core.specs.History.{live}
use Rattle.grid_configured.specs.Reports.{variant_view, variant_views}
use Rattle.grid_configured.proofs.replay.view_variants.Goals as goal

pub loop-place-preserved : goal.loop-place-preserved
loop-place-preserved c =
    let world = c.args.world.now in
    c.in_ok-push.ensures.ok ∙ ap (λ vs. vs ++ c.in_ok-view.view ∷ []) c.loop-place.invariant
    ∙ sym (map_one_more (variant_view world.network world.steps) (live world.steps) c.loop-place.place c.in_ok-view.view c.in_ok-view.ensures)

pub returns : goal.returns
unfolding variant_views
returns c =
    let world = c.args.world.now in
    c.loop-place.invariant ∙ ap (map (variant_view world.network world.steps)) (take_all c.loop-place.place (live world.steps) (omega (arith, c.variant_count-place-end.ensures, c.loop-place-test.false)))
