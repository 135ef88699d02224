use Rattle.std.proofs.Common.{sym, subst}
use Rattle.std.proofs.lemmas.Result.{on_ok_weaker}
use Rattle.grid_screen.specs.Walks.{Grows}
use Rattle.grid_screen.proofs.WalkSteps.{grows_both}
use Rattle.grid_screen.proofs.Sitings.{three_sides}
use Rattle.grid_screen.proofs.walk.hit_equipment.Goals as goal

pub returns : goal.returns
returns c =
    let g = c.args.scene.now in
    let id = c.args.id.now in
    let one = c.hit_side.new.walk in
    let two = c.hit_side-2.new.walk in
    let three = c.hit_side-3.new.walk in
    let both = grows_both g c.args.walk.now one two _ _ c.in_ok-hit_side.ensures c.in_ok-hit_side-2.ensures in
    on_ok_weaker c.hit_side-3.result (λ r. subst (Grows g c.args.walk.now three) (sym (three_sides g.net id)) (grows_both g c.args.walk.now two three _ _ both r)) c.hit_side-3.ensures
