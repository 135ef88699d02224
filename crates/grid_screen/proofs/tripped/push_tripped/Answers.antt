use Rattle.std.proofs.Common.{sym, ap, ◌∙◌, true, false, arith, get_or}
use Rattle.grid_level.specs.Passing.{positioned}
use Rattle.grid_states.specs.Rows.{row_at}
use Rattle.grid_screen.specs.Faults.{can_trip, trips}
use Rattle.grid_screen.specs.Grounds.{with_flag_of}
use Rattle.grid_structure.specs.declared.SwitchAt.{SwitchAt}
use Rattle.grid_screen.specs.Walks.{hits_in}
use Rattle.grid_screen.proofs.HitSites.{fits}
use Rattle.grid_screen.proofs.Sitings.{first_is_node, second_is_node}
use Rattle.grid_screen.proofs.WalkSteps.{node_there}
use Rattle.grid_screen.proofs.BreakerTrips.{spots_more, spots_skipped, stands_in, cannot, can, level_trips_all}
use Rattle.grid_screen.proofs.tripped.push_tripped.Goals as goal

pub loop-index-preserved-then-not-can_trip : goal.loop-index-preserved-then-not-can_trip
loop-index-preserved-then-not-can_trip c =
    let g = c.args.scene.now in
    let t = c.args.touched.now in
    let row = row_at g.opened c.args.place in
    let s = with_flag_of (c.switch-switch.result.now, get_or c.opened-opened.result.now c.loop-index.index false) in
    let at = stands_in t.level.now row c.opened-opened.result.now c.loop-index.index c.switch-switch.result.now c.opened-opened.ensures (c.keeps.ensures.flags c.args.place t.level.now c.requires.at) c.switch-switch.ensures in
    let no = ap (λ z. can_trip z c.args.hit.now s) (sym c.stuck.ensures) ∙ sym c.can_trip.ensures ∙ c.if-not-can_trip.true in
    spots_skipped (trips g.stuck c.args.hit.now (hits_in t)) c.args.place (positioned t.level.now row).switches c.loop-index.index s c.args.tripped.now c.loop-index.tripped at
    (cannot g.stuck c.args.hit.now (hits_in t) s no) c.loop-index.invariant

pub is_at_hit-requires-clause-first : goal.is_at_hit-requires-clause-first
is_at_hit-requires-clause-first c =
    let at : SwitchAt = record { level = c.args.place; place = c.loop-index.index } in
    node_there c.args.scene.now _ c.args.touched.now (first_is_node c.args.scene.now.net at c.args.touched.now.level.now c.switch-switch.result.now c.keeps.ensures.sound c.requires.at c.switch-switch.ensures) c.requires

pub is_at_hit-requires-clause-second : goal.is_at_hit-requires-clause-second
is_at_hit-requires-clause-second c =
    let at : SwitchAt = record { level = c.args.place; place = c.loop-index.index } in
    node_there c.args.scene.now _ c.args.touched.now (second_is_node c.args.scene.now.net at c.args.touched.now.level.now c.switch-switch.result.now c.keeps.ensures.sound c.requires.at c.switch-switch.ensures) c.requires

pub is_at_hit-requires-clause-fits : goal.is_at_hit-requires-clause-fits
is_at_hit-requires-clause-fits c = fits c.args.scene.now c.args.place c.args.touched.now c.requires

pub loop-index-preserved-then-not-is_at_hit : goal.loop-index-preserved-then-not-is_at_hit
loop-index-preserved-then-not-is_at_hit c =
    let g = c.args.scene.now in
    let t = c.args.touched.now in
    let row = row_at g.opened c.args.place in
    let s = with_flag_of (c.switch-switch.result.now, get_or c.opened-opened.result.now c.loop-index.index false) in
    let at = stands_in t.level.now row c.opened-opened.result.now c.loop-index.index c.switch-switch.result.now c.opened-opened.ensures (c.keeps.ensures.flags c.args.place t.level.now c.requires.at) c.switch-switch.ensures in
    let yes = ap (λ z. can_trip z c.args.hit.now s) (sym c.stuck.ensures) ∙ sym c.can_trip.ensures ∙ c.if-not-can_trip.false in
    spots_skipped (trips g.stuck c.args.hit.now (hits_in t)) c.args.place (positioned t.level.now row).switches c.loop-index.index s c.args.tripped.now c.loop-index.tripped at
    (can g.stuck c.args.hit.now (hits_in t) s false yes (sym c.is_at_hit.ensures ∙ c.if-not-is_at_hit.true)) c.loop-index.invariant

pub loop-index-preserved : goal.loop-index-preserved
loop-index-preserved c =
    let g = c.args.scene.now in
    let t = c.args.touched.now in
    let row = row_at g.opened c.args.place in
    let s = with_flag_of (c.switch-switch.result.now, get_or c.opened-opened.result.now c.loop-index.index false) in
    let at = stands_in t.level.now row c.opened-opened.result.now c.loop-index.index c.switch-switch.result.now c.opened-opened.ensures (c.keeps.ensures.flags c.args.place t.level.now c.requires.at) c.switch-switch.ensures in
    let yes = ap (λ z. can_trip z c.args.hit.now s) (sym c.stuck.ensures) ∙ sym c.can_trip.ensures ∙ c.if-not-can_trip.false in
    spots_more (trips g.stuck c.args.hit.now (hits_in t)) c.args.place (positioned t.level.now row).switches c.loop-index.index s c.args.tripped.now c.loop-index.tripped _ at
    (can g.stuck c.args.hit.now (hits_in t) s true yes (sym c.is_at_hit.ensures ∙ c.if-not-is_at_hit.false)) c.loop-index.invariant c.in_ok-push.ensures.ok

pub returns : goal.returns
returns c =
    level_trips_all c.args.scene.now c.args.hit.now c.args.place c.args.touched.now c.loop-index.index c.args.tripped.now c.loop-index.tripped (omega (arith, c.loop-index-test.false, c.switch_count-index-end.ensures)) c.loop-index.invariant
