use Rattle.std.proofs.Common.{◌≡◌, sym, ap, ◌∙◌, [], ◌∷◌, ◌++◌, length, length-append, arith}
use Rattle.std.specs.List.{filter_map, range_with_len}
use Rattle.grid_structure.specs.Sites.{levels}
use Rattle.grid_core.specs.History.{structure}
use Rattle.grid_core.specs.Replies.{view}
use Rattle.grid_report.specs.Histories.{variant_view}
use Rattle.grid_lemmas.proofs.Ranges.{given_more}
use Rattle.grid_cli.proofs.views.views_beside.Goals as goal

pub loop-level-preserved : goal.loop-level-preserved
loop-level-preserved c = record {
  within = omega (arith, c.level_count-level-end.ensures, c.loop-level-test.true);
  views =
      c.in_ok-push.ensures.ok ∙ ap (λ vs. vs ++ c.in_ok-view.view ∷ []) c.loop-level.invariant.views
      ∙ sym (given_more (view c.args.world.now.origin c.args.world.now.steps c.args.name.now) c.loop-level.level c.in_ok-view.view c.in_ok-view.ensures);
  count = omega (arith, ap length c.in_ok-push.ensures.ok, length-append c.loop-level.views (c.in_ok-view.view ∷ []), c.loop-level.invariant.count);
}

pub returns-clause-views : goal.returns-clause-views
unfolding variant_view
returns-clause-views c =
    let all : c.loop-level.level ≡ length (levels (structure c.args.world.now.origin c.args.world.now.steps)) = omega (arith, c.level_count-level-end.ensures, c.loop-level-test.false, c.loop-level.invariant.within) in
    c.loop-level.invariant.views ∙ ap (λ n. filter_map (view c.args.world.now.origin c.args.world.now.steps c.args.name.now) (range_with_len 0 n)) all
