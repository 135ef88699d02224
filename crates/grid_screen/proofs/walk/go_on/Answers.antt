use Rattle.std.proofs.Common.{refl}
use Rattle.std.proofs.lemmas.Bool.{false≢true}
use Rattle.grid_screen.specs.declared.walk.Walk.{Walk}
use Rattle.grid_screen.proofs.WalkResults.{reaches_none, reaches_more, open_more, ends_all, nothing_left}
use Rattle.grid_screen.proofs.walk.go_on.Goals as goal

pub loop-turn-init : goal.loop-turn-init
loop-turn-init c = record { open_still = c.requires; reaches = reaches_none c.args.scene.now c.args.walk.now.touched }

pub hit_equipment-requires : goal.hit_equipment-requires
hit_equipment-requires c = c.loop-turn.invariant.open_still.touched

pub loop-turn-preserved : goal.loop-turn-preserved
loop-turn-preserved c =
    let g = c.args.scene.now in
    let inv = c.loop-turn.invariant in
    let mid : Walk = record { touched = c.loop-turn.walk.touched; work = c.pop.new.self } in
    record {
      open_still = open_more g c.keeps.ensures c.loop-turn.walk mid c.hit_equipment.new.walk c.in-Some.id inv.open_still refl c.in-Some.ensures.item c.in_ok-hit_equipment.ensures;
      reaches = reaches_more g c.keeps.ensures c.loop-turn.walk mid c.hit_equipment.new.walk c.in-Some.id inv.open_still refl c.in-Some.ensures.item c.in_ok-hit_equipment.ensures c.args.walk.now.touched inv.reaches;
    }

pub returns-in_default : goal.returns-in_default
returns-in_default c =
    let g = c.args.scene.now in
    let inv = c.loop-turn.invariant in
    record {
      touched = inv.open_still.touched;
      reaches = inv.reaches;
      ends = ends_all g c.loop-turn.walk inv.open_still (nothing_left c.loop-turn.walk.work (λ h. false≢true (c.in_default.ensures.found.1 h)));
    }
