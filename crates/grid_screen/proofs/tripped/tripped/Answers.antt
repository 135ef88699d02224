use Rattle.std.proofs.Common.{◌≡◌, sym, subst, List, ℕ}
use Rattle.std.specs.Prelude.{flat_map}
use Rattle.std.proofs.lemmas.Result.{IfOk-weaker}
use Rattle.grid_json.specs.Seen.{Knows}
use Rattle.grid_screen.specs.Faults.{AreTripped}
use Rattle.grid_screen.specs.Opening.{network_trips}
use Rattle.grid_screen.specs.Walks.{IsSettled}
use Rattle.grid_screen.specs.Zones.{sites_of}
use Rattle.grid_screen.proofs.BreakerTrips.{tripped_found}
use Rattle.grid_screen.proofs.tripped.tripped.Goals as goal

pub list_tripped-requires : goal.list_tripped-requires
list_tripped-requires c = c.in_ok-walk.ensures.each

pub returns : goal.returns
returns c =
    let g = c.in_ok-scene.scene in
    let case = c.args.case.now in
    let fault = c.args.fault.now in
    let settled = subst (λ (z : List (List ℕ)). IsSettled g (flat_map (sites_of g.net) z) c.in_ok-walk.walk.touched) c.slice-2.ensures c.in_ok-walk.ensures in
    let known = subst (Knows c.in_ok-hit.hit) c.slice.ensures c.in_ok-hit.ensures in
    IfOk-weaker c.list_tripped.result (λ tripped. tripped ≡ network_trips g c.in_ok-hit.hit c.in_ok-walk.walk.touched) (AreTripped case fault)
    (λ tripped e. subst (AreTripped case fault) (sym e) (tripped_found case fault g c.keeps.ensures c.in_ok-scene.ensures c.in_ok-hit.hit c.in_ok-walk.walk.touched known settled)) c.list_tripped.ensures
