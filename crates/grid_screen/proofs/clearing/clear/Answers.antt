use Rattle.std.proofs.Common.{◌≡◌, sym, ap, ◌∙◌, subst, List, ℕ, ◌++◌, append_assoc}
use Rattle.std.specs.Prelude.{filter, flat_map}
use Rattle.grid_json.specs.Seen.{Knows}
use Rattle.grid_structure.specs.Network.{Network}
use Rattle.grid_screen.specs.Faults.{switch_ids, AreTripped}
use Rattle.grid_screen.specs.Opening.{network_trips, network_equipment, AreSwitches}
use Rattle.grid_screen.specs.Outages.{is_switch}
use Rattle.grid_screen.specs.Walks.{IsSettled}
use Rattle.grid_screen.specs.Zones.{sites_of}
use Rattle.grid_screen.proofs.Clearings.{trips_are_switches, clearing_found}
use Rattle.grid_screen.proofs.BreakerTrips.{tripped_found}
use Rattle.grid_screen.proofs.clearing.clear.Goals as goal

pub list_tripped-requires : goal.list_tripped-requires
list_tripped-requires c = c.in_ok-walk.ensures.each

pub push_switches-requires : goal.push_switches-requires
push_switches-requires c =
    let g = c.in_ok-scene.scene in
    subst (AreSwitches c.args.case.now.structure) (sym (c.slice-3.ensures ∙ c.in_ok-tripped.ensures))
    (subst (λ (z : Network). AreSwitches z (network_trips g c.in_ok-hit.hit c.in_ok-walk.walk.touched)) c.in_ok-scene.ensures.net_is (trips_are_switches g c.in_ok-hit.hit c.in_ok-walk.walk.touched))

pub push_hit_equipment-requires : goal.push_hit_equipment-requires
push_hit_equipment-requires c = c.in_ok-walk.ensures.each

pub returns-clause-tripped : goal.returns-clause-tripped
returns-clause-tripped c =
    let g = c.in_ok-scene.scene in
    let case = c.args.case.now in
    let fault = c.args.fault.now in
    let settled = subst (λ (z : List (List ℕ)). IsSettled g (flat_map (sites_of g.net) z) c.in_ok-walk.walk.touched) c.slice-2.ensures c.in_ok-walk.ensures in
    let known = subst (Knows c.in_ok-hit.hit) c.slice.ensures c.in_ok-hit.ensures in
    subst (AreTripped case fault) (sym c.in_ok-tripped.ensures) (tripped_found case fault g c.keeps.ensures c.in_ok-scene.ensures c.in_ok-hit.hit c.in_ok-walk.walk.touched known settled)

pub returns-clause-ids : goal.returns-clause-ids
returns-clause-ids c =
    let g = c.in_ok-scene.scene in
    let case = c.args.case.now in
    let net = case.structure in
    let fault = c.args.fault.now in
    let ids = c.args.ids in
    let hit = c.in_ok-hit.hit in
    let touched = c.in_ok-walk.walk.touched in
    let settled = subst (λ (z : List (List ℕ)). IsSettled g (flat_map (sites_of g.net) z) touched) c.slice-2.ensures c.in_ok-walk.ensures in
    let known = subst (Knows hit) c.slice.ensures c.in_ok-hit.ensures in
    let breakers = flat_map (switch_ids net) (network_trips g hit touched) in
    let switches = filter (is_switch net) fault.fault in
    let one : c.push_switches.new.ids ≡ ids ++ breakers =
    c.in_ok-push_switches.ensures ∙ ap (λ z. ids ++ flat_map (switch_ids net) z) (c.slice-3.ensures ∙ c.in_ok-tripped.ensures) in
    let two : c.push_hit_switches.new.ids ≡ (ids ++ breakers) ++ switches =
    c.in_ok-push_hit_switches.ensures ∙ ap (λ z. z ++ filter (is_switch net) c.slice-4.result.now) one ∙ ap (λ z. (ids ++ breakers) ++ filter (is_switch net) z) c.slice-4.ensures in
    let all : c.push_hit_equipment.new.ids ≡ ids ++ (breakers ++ (switches ++ network_equipment g touched)) =
    c.in_ok-push_hit_equipment.ensures ∙ ap (λ z. z ++ network_equipment g touched) two
    ∙ append_assoc (ids ++ breakers) switches (network_equipment g touched) ∙ append_assoc ids breakers (switches ++ network_equipment g touched) in
    let cleared = clearing_found case fault g c.keeps.ensures c.in_ok-scene.ensures hit touched known settled in
    λ retained. all ∙ ap (λ z. ids ++ z) (cleared retained)
