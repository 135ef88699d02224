use Rattle.std.proofs.Common.{ap, ◌∙◌, ◌++◌, arith}
use Rattle.std.specs.Prelude.{flat_map}
use Rattle.std.proofs.lemmas.List.{take_all}
use Rattle.grid_level.specs.VoltageLevel.{VoltageLevel}
use Rattle.grid_structure.specs.Sites.{levels}
use Rattle.grid_contingencies.specs.Pieces.{breakers_of}
use Rattle.grid_contingencies.proofs.ItemLoops.{flat_more}
use Rattle.grid_contingencies.proofs.listing.list_breakers.Goals as goal

pub loop-place-preserved : goal.loop-place-preserved
loop-place-preserved c =
    c.in_ok-push_breakers.ensures ∙ ap (λ z. c.loop-place.ids ++ breakers_of z) c.switches.ensures
    ∙ flat_more (λ (l : VoltageLevel). breakers_of l.switches) (levels c.args.structure.now) c.loop-place.place c.level.result.now c.loop-place.ids c.level.ensures c.loop-place.invariant

pub returns : goal.returns
returns c =
    c.loop-place.invariant ∙ ap (flat_map (λ (l : VoltageLevel). breakers_of l.switches)) (take_all c.loop-place.place (levels c.args.structure.now) (omega (arith, c.loop-place-test.false, c.level_count-place-end.ensures)))
