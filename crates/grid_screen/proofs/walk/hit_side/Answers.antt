use Rattle.std.proofs.Common.{sym, subst, ap, ◌∙◌}
use Rattle.std.specs.Option.{option_map, option_to_list}
use Rattle.std.proofs.lemmas.Result.{on_ok_weaker}
use Rattle.grid_structure.specs.Network.{Network}
use Rattle.grid_structure.specs.Sites.{site, terminal_spot}
use Rattle.grid_screen.specs.Walks.{Grows, site_of_side}
use Rattle.grid_outages.proofs.OutageChanges.{at_site}
use Rattle.grid_screen.proofs.WalkSteps.{grows_none}
use Rattle.grid_screen.proofs.Sitings.{site_is_node}
use Rattle.grid_screen.proofs.walk.hit_side.Goals as goal

pub hit-requires-clause-site : goal.hit-requires-clause-site
hit-requires-clause-site c =
    let g = c.args.scene.now in
    let found = at_site (site g.net c.args.id.now c.args.side) c.in-Some.site (sym c.in-Some.is ∙ c.site.ensures ∙ ap (λ (z : Network). option_map terminal_spot (site z c.args.id.now c.args.side)) c.structure.ensures) in
    site_is_node g.net c.args.id.now c.args.side c.in-Some.site.level c.in-Some.site.node c.keeps.ensures.sound found

pub returns-in-Some : goal.returns-in-Some
unfolding site_of_side
returns-in-Some c =
    let g = c.args.scene.now in
    let found = sym c.in-Some.is ∙ c.site.ensures ∙ ap (λ (z : Network). option_map terminal_spot (site z c.args.id.now c.args.side)) c.structure.ensures in
    on_ok_weaker c.hit.result (λ r. subst (λ z. Grows g c.args.walk.now c.hit.new.walk (option_to_list z)) found r) c.hit.ensures

pub returns-in-None : goal.returns-in-None
unfolding site_of_side
returns-in-None c =
    let g = c.args.scene.now in
    let found = sym c.in-None.is ∙ c.site.ensures ∙ ap (λ (z : Network). option_map terminal_spot (site z c.args.id.now c.args.side)) c.structure.ensures in
    subst (λ z. Grows g c.args.walk.now c.args.walk.now (option_to_list z)) found (grows_none g c.args.walk.now c.requires)
