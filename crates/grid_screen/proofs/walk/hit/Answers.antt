use Rattle.std.proofs.Common.{ap, ◌∙◌, length, arith, None, Some, ◌++◌}
use Rattle.std.specs.Prelude.{slice_set}
use Rattle.std.proofs.lemmas.List.{length-set}
use Rattle.grid_structure.specs.Sites.{levels}
use Rattle.grid_screen.proofs.Grown.{can_hit}
use Rattle.grid_screen.proofs.WalkSteps.{grows_hit, got_below, node_there, waiting_is}
use Rattle.grid_screen.proofs.walk.hit.Goals as goal

pub hit_in-requires : goal.hit_in-requires
hit_in-requires c =
    let g = c.args.scene.now in
    let t = c.in_ok-here.here.value in
    let touched = c.in_ok-here.ensures.touched in
    can_hit g c.args.site.level c.args.site.node t touched (node_there g c.args.site t c.requires.site touched)

pub put-requires : goal.put-requires
put-requires c =
    let inside = got_below (levels c.args.scene.now.net) c.args.site.level c.requires.site.level c.requires.site.at in
    let stays = ap length c.in_ok-here.ensures.left ∙ length-set c.args.walk.now.touched c.args.site.level None in
    omega (arith, inside, stays, c.requires.touched.long)

pub returns : goal.returns
returns c =
    let g = c.args.scene.now in
    let site = c.args.site in
    let t = c.in_ok-here.here.value in
    let touched = c.in_ok-here.ensures.touched in
    let can = can_hit g site.level site.node t touched (node_there g site t c.requires.site touched) in
    grows_hit g c.args.walk.now (record { touched = c.put.new.self; work = c.hit_in.new.work }) site t touched.present c.in_ok-here-2.here
    c.keeps.ensures c.requires.touched c.requires.site touched c.in_ok-here.ensures.same touched.there
    (omega (arith, can.below, can.hit)) c.in_ok-here-2.ensures.hit (c.in_ok-put.ensures.ok ∙ ap (λ z. slice_set z site.level (Some c.in_ok-here-2.here)) c.in_ok-here.ensures.left)
    (c.in_ok-here-2.ensures.work ∙ ap (λ z. c.args.walk.now.work ++ z) (waiting_is g site.level site.node t touched))
