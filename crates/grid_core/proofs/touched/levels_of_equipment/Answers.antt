use Rattle.std.proofs.Common.{sym, ◌∙◌}
use Rattle.grid_structure.specs.Sites.{site}
use Rattle.grid_core.proofs.EquipmentSides.{at_site}
use Rattle.grid_core.proofs.EquipmentLevels.{site_within, three_sides, same_place}
use Rattle.grid_core.proofs.touched.levels_of_equipment.Goals as goal

pub level_of_side-second-requires : goal.level_of_side-second-requires
level_of_side-second-requires c =
    let net = c.args.structure.now in
    site_within net c.args.id.now 1 c.in-Some.site.level c.in-Some.site.node (at_site (site net c.args.id.now 1) c.in-Some.site c.in-Some.ensures)

pub returns : goal.returns
returns c =
    let net = c.args.structure.now in
    let id = c.args.id.now in
    let at = at_site (site net id 1) c.in-Some.site c.in-Some.ensures in
    let first = c.in-Some.site.level in (
      site_within net id 1 first c.in-Some.site.node at,
      c.level_of_side-second.ensures.below,
      three_sides net id first c.level_of_side-second.result c.level_of_side-third.result (λ level node h. same_place level node first c.in-Some.site.node (sym h ∙ at)) c.level_of_side-second.ensures.level c.level_of_side-third.ensures.level,
    )
