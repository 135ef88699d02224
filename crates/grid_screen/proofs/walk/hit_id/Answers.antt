use Rattle.std.proofs.Common.{sym, subst, ap, ◌∙◌}
use Rattle.std.specs.Option.{option_map}
use Rattle.std.proofs.lemmas.Result.{on_ok_weaker}
use Rattle.grid_structure.specs.Network.{Network}
use Rattle.grid_structure.specs.Sites.{find_switch, switch_spot}
use Rattle.grid_screen.specs.Walks.{Grows}
use Rattle.grid_screen.specs.Zones.{sites_of, sites_by}
use Rattle.grid_screen.proofs.Sitings.{switch_there, some_switch, no_switch}
use Rattle.grid_screen.proofs.walk.hit_id.Goals as goal

pub hit_switch-requires-clause-at : goal.hit_switch-requires-clause-at
hit_switch-requires-clause-at c =
    let net = c.args.scene.now.net in
    let found = some_switch (find_switch net c.args.id.now) c.in-Some.at (sym c.in-Some.is ∙ c.find_switch.ensures ∙ ap (λ (z : Network). option_map switch_spot (find_switch z c.args.id.now)) c.structure.ensures) in
    switch_there net c.args.id.now c.in-Some.at.level c.in-Some.at.place found

pub returns-in-Some : goal.returns-in-Some
unfolding sites_of
returns-in-Some c =
    let g = c.args.scene.now in
    let found = some_switch (find_switch g.net c.args.id.now) c.in-Some.at (sym c.in-Some.is ∙ c.find_switch.ensures ∙ ap (λ (z : Network). option_map switch_spot (find_switch z c.args.id.now)) c.structure.ensures) in
    on_ok_weaker c.hit_switch.result (λ r. subst (λ z. Grows g c.args.walk.now c.hit_switch.new.walk (sites_by g.net c.args.id.now z)) (sym found) r) c.hit_switch.ensures

pub returns-in-None : goal.returns-in-None
unfolding sites_of
returns-in-None c =
    let g = c.args.scene.now in
    let found = no_switch (find_switch g.net c.args.id.now) (sym c.in-None.is ∙ c.find_switch.ensures ∙ ap (λ (z : Network). option_map switch_spot (find_switch z c.args.id.now)) c.structure.ensures) in
    on_ok_weaker c.hit_equipment.result (λ r. subst (λ z. Grows g c.args.walk.now c.hit_equipment.new.walk (sites_by g.net c.args.id.now z)) (sym found) r) c.hit_equipment.ensures
