use Rattle.std.proofs.Common.{◌≡◌, subst, List, ℕ}
use Rattle.std.specs.Prelude.{filter, flat_map}
use Rattle.std.proofs.lemmas.Result.{IfOk-weaker}
use Rattle.grid_screen.specs.Faults.{IsZone}
use Rattle.grid_screen.specs.Walks.{hits, IsSettled}
use Rattle.grid_screen.specs.Zones.{network_sites, sites_of}
use Rattle.grid_screen.proofs.FaultScenes.{zone_found}
use Rattle.grid_screen.proofs.zone.zone.Goals as goal

pub list_hit-requires : goal.list_hit-requires
list_hit-requires c = c.in_ok-walk.ensures.each

pub returns : goal.returns
returns c =
    let g = c.in_ok-scene.scene in
    let settled = subst (λ (z : List (List ℕ)). IsSettled g (flat_map (sites_of g.net) z) c.in_ok-walk.walk.touched) c.slice.ensures c.in_ok-walk.ensures in
    IfOk-weaker c.list_hit.result (λ zone. zone ≡ filter (hits c.in_ok-walk.walk.touched) (network_sites g.net)) (IsZone c.args.case.now c.args.fault.now)
    (λ zone e. zone_found c.args.case.now c.args.fault.now g c.keeps.ensures c.in_ok-scene.ensures c.in_ok-walk.walk.touched zone settled e) c.list_hit.ensures
