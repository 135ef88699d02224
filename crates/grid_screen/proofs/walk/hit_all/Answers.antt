use Rattle.std.proofs.Common.{sym, subst}
use Rattle.std.specs.Prelude.{flat_map}
use Rattle.std.proofs.lemmas.List.{take_all}
use Rattle.grid_screen.specs.Walks.{Grows}
use Rattle.grid_screen.specs.Zones.{sites_of}
use Rattle.grid_screen.proofs.WalkSteps.{grows_none, grows_both, flat_more}
use Rattle.grid_screen.proofs.walk.hit_all.Goals as goal

pub loop-id-init : goal.loop-id-init
loop-id-init c = grows_none c.args.scene.now c.args.walk.now c.requires

pub hit_id-requires : goal.hit_id-requires
hit_id-requires c = c.loop-id.invariant.touched

pub loop-id-preserved : goal.loop-id-preserved
loop-id-preserved c =
    let g = c.args.scene.now in
    subst (Grows g c.args.walk.now c.hit_id.new.walk) (sym (flat_more (sites_of g.net) c.args.ids.now c.loop-id.id-index c.id-item.result c.loop-id-test.true c.id-item.is))
    (grows_both g c.args.walk.now c.loop-id.walk c.hit_id.new.walk _ _ c.loop-id.invariant c.in_ok-hit_id.ensures)

pub returns : goal.returns
returns c =
    let g = c.args.scene.now in
    subst (λ z. Grows g c.args.walk.now c.loop-id.walk (flat_map (sites_of g.net) z)) (take_all c.loop-id.id-index c.args.ids.now c.loop-id-test.false) c.loop-id.invariant
