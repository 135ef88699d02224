use Rattle.std.proofs.Common.{ap, ◌∙◌, [], pos, arith, SFits, w64, rules}
use Rattle.std.proofs.lemmas.Int.{to_z-of_z}
use Rattle.grid_groups.proofs.Lists.{get_or_any}
use Rattle.grid_level.specs.Passing.{nodes}
use Rattle.grid_islands.specs.Numbering.{number_of_node}
use Rattle.grid_hvdc.proofs.StationSites.{none_numbered, numbered_by}
use Rattle.grid_hvdc.proofs.stations.station_bus.Goals as goal

pub returns-in-None : goal.returns-in-None
returns-in-None c = none_numbered c.args.structure.now c.args.rows.now c.args.id.now c.in-None.ensures.site

pub returns : goal.returns
returns c =
    let level = c.level.result.now in
    let rows = c.args.rows.now in
    let k = c.in-Some.site.level in
    let fits : SFits w64 c.from.result = search rules in
    let row = c.slice.ensures ∙ c.index-rows-site.is ∙ get_or_any rows k c.index-rows-site.result [] (omega (arith, c.in-Some.ensures.level, c.requires)) in
    c.number_of_node.ensures ∙ ap (number_of_node (nodes level) c.slice.result.now) (to_z-of_z w64 c.from.result fits ∙ c.from.ensures)
    ∙ ap (λ z. number_of_node (nodes level) z (pos c.in-Some.site.node)) row
    ∙ numbered_by c.args.structure.now rows c.args.id.now c.in-Some.site level c.in-Some.ensures.site c.level.ensures
