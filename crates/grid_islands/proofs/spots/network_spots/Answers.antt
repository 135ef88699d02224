use Rattle.std.proofs.Common.{ap, ◌∙◌, ◌++◌, [], ◌∷◌, map, arith}
use Rattle.std.proofs.lemmas.List.{take_all}
use Rattle.grid_structure.specs.Sites.{branches}
use Rattle.grid_islands.specs.Spots.{spots_of_branch, network_spots}
use Rattle.grid_islands.proofs.SpotNumbers.{spots_more}
use Rattle.grid_islands.proofs.spots.network_spots.Goals as goal

pub loop-place-preserved : goal.loop-place-preserved
loop-place-preserved c =
    let net = c.args.structure.now in
    c.in_ok-push.ensures.ok ∙ ap (λ z. c.loop-place.list ++ z ∷ []) c.spots_of_branch.ensures
    ∙ spots_more net (branches net) c.loop-place.place c.loop-place.list c.branch-structure.result.now (omega (arith, c.loop-place-test.true, c.branch_count-count.ensures)) c.loop-place.invariant c.branch-structure.ensures

pub returns : goal.returns
unfolding network_spots
returns c =
    let net = c.args.structure.now in
    c.loop-place.invariant ∙ ap (map (λ b. spots_of_branch net b.shape)) (take_all c.loop-place.place (branches net) (omega (arith, c.loop-place-test.false, c.branch_count-count.ensures)))
