use Rattle.std.proofs.Common.{◌≡◌, sym, ap, ◌∙◌, [], ◌∷◌, ◌++◌, length, arith}
use Rattle.std.specs.List.{filter_map, range_with_len}
use Rattle.grid_lemmas.proofs.Ranges.{given_more}
use Rattle.grid_configured.specs.Histories.{view}
use Rattle.grid_configured.specs.Reports.{variant_view}
use Rattle.grid_configured.proofs.replay.level_views.Goals as goal

pub loop-level-preserved : goal.loop-level-preserved
loop-level-preserved c =
    let world = c.args.world.now in
    record {
      within = omega (arith, c.len-level-end.ensures, ap (λ n. length n.levels) c.network.ensures, c.requires.few, c.loop-level-test.true);
      views =
          c.in_ok-push.ensures.ok ∙ ap (λ vs. vs ++ c.in_ok-view.view ∷ []) c.loop-level.invariant.views
          ∙ sym (given_more (view world.network world.steps c.args.name.now) c.loop-level.level c.in_ok-view.view c.in_ok-view.ensures);
    }

pub returns : goal.returns
unfolding variant_view
returns c =
    let world = c.args.world.now in
    let all : c.loop-level.level ≡ length world.network.levels = omega (arith, c.len-level-end.ensures, ap (λ n. length n.levels) c.network.ensures, c.requires.few, c.loop-level-test.false, c.loop-level.invariant.within) in
    c.loop-level.invariant.views ∙ ap (λ n. filter_map (view world.network world.steps c.args.name.now) (range_with_len 0 n)) all
