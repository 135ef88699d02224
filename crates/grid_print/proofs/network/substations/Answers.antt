use Rattle.std.proofs.Common.{◌≡◌, ◌+◌, refl, sym, ap, ap₂, subst, ◌∙◌, arith, length, map}
use Rattle.serde_json.specs.View.{view}
use Rattle.grid_structure.specs.Sites.{levels, branches}
use Rattle.grid_print.specs.Objects.{array_of}
use Rattle.grid_print.specs.Network.{level_value, named_branch_value, substation_value}
use Rattle.grid_print.specs.Cutting.{between, levels_before, transformers_before}
use Rattle.grid_print.specs.Readable.{IsId, IsReadableLevel, IsReadableBranch}
use Rattle.grid_print.proofs.Each.{within_more, within_both}
use Rattle.grid_print.proofs.SubstationPlaces.{mapped_more, one_more_at, levels_grow, levels_within, levels_all, transformers_grow, transformers_within, substation_made}
use Rattle.grid_print.proofs.network.substations.Goals as goal

pub loop-place-init : goal.loop-place-init
unfolding levels_before transformers_before
loop-place-init c = record {
  values = ap (map view) c.new-values.ensures.items;
  level = refl;
  transformer = refl;
  ids = λ k d low high. absurd (omega (arith, high));
  readable_levels = λ k d low high. absurd (omega (arith, high));
  readable_branches = λ k d low high. absurd (omega (arith, high));
}

pub levels-requires-clause-order : goal.levels-requires-clause-order
levels-requires-clause-order c = omega (arith, c.loop-place.invariant.level, c.levels_end-level_end.ensures, levels_grow c.args.network.now.substations c.loop-place.place)

pub levels-requires-clause-within : goal.levels-requires-clause-within
unfolding levels
levels-requires-clause-within c = omega (arith, c.levels_end-level_end.ensures, levels_within c.args.network.now.substations (c.loop-place.place + 1))

pub branches-requires-clause-order : goal.branches-requires-clause-order
branches-requires-clause-order c = omega (arith, c.loop-place.invariant.transformer, c.transformers_end-transformer_end.ensures, transformers_grow c.args.network.now.substations c.loop-place.place)

pub branches-requires-clause-within : goal.branches-requires-clause-within
branches-requires-clause-within c = omega (arith, c.transformers_end-transformer_end.ensures, transformers_within c.args.network.now (c.loop-place.place + 1))

pub loop-place-preserved : goal.loop-place-preserved
loop-place-preserved c =
    let net = c.args.network.now in
    let made =
    substation_made net c.loop-place.place c.substation_id.result.now (view c.in_ok-levels.levels) (view c.in_ok-transformers.transformers) c.substation_id.ensures
    (c.in_ok-levels.ensures.value ∙ ap₂ (λ a b. array_of level_value (between a b (levels net))) c.loop-place.invariant.level c.levels_end-level_end.ensures)
    (c.in_ok-transformers.ensures.value ∙ ap₂ (λ a b. array_of named_branch_value (between a b (branches net))) c.loop-place.invariant.transformer c.transformers_end-transformer_end.ensures) in
    record {
      values = ap (map view) c.in_ok-push.ensures.items ∙ mapped_more substation_value _ _ c.in_ok-substation.field-0 made.0 c.loop-place.invariant.values (c.in_ok-substation.ensures.value ∙ made.2)
          ∙ ap (map substation_value) (sym (one_more_at net.substations c.loop-place.place made.0 made.1));
      level = c.levels_end-level_end.ensures;
      transformer = c.transformers_end-transformer_end.ensures;
      ids = within_more (λ s. IsId s.id) net.substations 0 c.loop-place.place made.0 made.1 c.loop-place.invariant.ids (subst IsId (sym made.3) c.in_ok-substation.ensures.readable);
      readable_levels = within_both IsReadableLevel (levels net) 0 c.loop-place.level c.levels_end-level_end.result c.loop-place.invariant.readable_levels c.in_ok-levels.ensures.readable;
      readable_branches = within_both IsReadableBranch (branches net) 0 c.loop-place.transformer c.transformers_end-transformer_end.result c.loop-place.invariant.readable_branches c.in_ok-transformers.ensures.readable;
    }

pub returns-clause-levels : goal.returns-clause-levels
returns-clause-levels c =
    let net = c.args.network.now in
    let end : c.loop-place.place ≡ length net.substations = omega (arith, c.substation_count-place-end.ensures) in
    let all : c.loop-place.level ≡ length (levels net) = c.loop-place.invariant.level ∙ ap (λ n. levels_before n net.substations) end ∙ levels_all net in
    λ k d high. c.loop-place.invariant.readable_levels k d (omega arith) (omega (arith, high, all))
