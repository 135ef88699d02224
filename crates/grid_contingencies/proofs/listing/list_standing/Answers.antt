use Rattle.std.proofs.Common.{ap, ◌∙◌, ◌++◌, arith}
use Rattle.std.specs.Prelude.{flat_map}
use Rattle.std.proofs.lemmas.List.{take_all}
use Rattle.grid_level.specs.VoltageLevel.{VoltageLevel}
use Rattle.grid_structure.specs.Sites.{levels}
use Rattle.grid_contingencies.specs.Pieces.{placed_of, standing_of}
use Rattle.grid_contingencies.proofs.ItemLoops.{flat_more}
use Rattle.grid_contingencies.proofs.listing.list_standing.Goals as goal

pub loop-place-preserved : goal.loop-place-preserved
loop-place-preserved c =
    c.in_ok-push_placed.ensures ∙ ap (λ z. c.loop-place.ids ++ placed_of c.args.kind z) c.placed.ensures
    ∙ flat_more (λ (l : VoltageLevel). placed_of c.args.kind l.placed) (levels c.args.structure.now) c.loop-place.place c.level.result.now c.loop-place.ids c.level.ensures c.loop-place.invariant

pub returns : goal.returns
unfolding standing_of
returns c =
    c.loop-place.invariant ∙ ap (flat_map (λ (l : VoltageLevel). placed_of c.args.kind l.placed)) (take_all c.loop-place.place (levels c.args.structure.now) (omega (arith, c.loop-place-test.false, c.level_count-place-end.ensures)))
