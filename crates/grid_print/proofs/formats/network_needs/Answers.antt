use Rattle.std.proofs.Common.{sym, ap, ◌∙◌, arith, ◌||◌}
use Rattle.std.specs.List.{list_any}
use Rattle.std.proofs.lemmas.List.{take_all}
use Rattle.std.proofs.lemmas.List.Folds.{list_any_more}
use Rattle.std.proofs.lemmas.Map.Keys.{any_passes_from_place}
use Rattle.std.proofs.lemmas.Option.{get_or_from_slice_get}
use Rattle.std.specs.List.{slice_index_or}
use Rattle.grid_structure.specs.Sites.{levels}
use Rattle.grid_print.specs.Formats.{level_needs, network_needs}
use Rattle.grid_print.proofs.formats.network_needs.Goals as goal

pub returns-then-level_needs : goal.returns-then-level_needs
unfolding network_needs
returns-then-level_needs c =
    sym (any_passes_from_place (level_needs c.args.format) (levels c.args.network.now) c.loop-place.place c.level.result.now c.level.ensures (sym c.level_needs.ensures ∙ c.if-level_needs.true))

pub loop-place-preserved : goal.loop-place-preserved
loop-place-preserved c =
    list_any_more (level_needs c.args.format) (levels c.args.network.now) c.loop-place.place c.level.result.now (omega (arith, c.loop-place-test.true, c.level_count-place-end.ensures))
    ∙ ap (λ b. b || level_needs c.args.format (slice_index_or (levels c.args.network.now) c.loop-place.place c.level.result.now)) c.loop-place.invariant
    ∙ ap (level_needs c.args.format) (get_or_from_slice_get (levels c.args.network.now) c.loop-place.place c.level.result.now c.level.result.now c.level.ensures)
    ∙ sym c.level_needs.ensures ∙ c.if-level_needs.false

pub returns : goal.returns
unfolding network_needs
returns c =
    sym (ap (list_any (level_needs c.args.format)) (sym (take_all c.loop-place.place (levels c.args.network.now) (omega (arith, c.loop-place-test.false, c.level_count-place-end.ensures)))) ∙ c.loop-place.invariant)
