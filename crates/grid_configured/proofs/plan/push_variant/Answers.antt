use Rattle.std.proofs.Common.{sym, ap, ◌∷◌, map}
use Rattle.std.proofs.lemmas.Result.{on_ok_weaker}
use Rattle.grid_jsonl.specs.Outcomes.{variant_object}
use Rattle.grid_configured.specs.Lines.{level_object, variant_objects}
use Rattle.grid_configured.proofs.PartObjects.{objects_more, pushed_objects}
use Rattle.grid_configured.proofs.plan.push_variant.Goals as goal

pub returns-clause-lines : goal.returns-clause-lines
unfolding variant_objects
returns-clause-lines c =
    let v = c.args.variant.now in
    on_ok_weaker c.push_levels.result
    (λ e. objects_more _ _ _ _ _ _ (pushed_objects _ _ _ c.in_ok-push.ensures.items) e (ap (λ l. variant_object v.name ∷ map (level_object v.name) l) (sym c.slice.ensures)))
    c.push_levels.ensures.lines
