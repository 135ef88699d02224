use Rattle.grid_structure.specs.Sites.{site}
use Rattle.grid_core.proofs.EquipmentSides.{at_site}
use Rattle.grid_core.proofs.EquipmentLevels.{site_within}
use Rattle.grid_core.proofs.touched.level_of_side.Goals as goal

pub returns-in-Some-clause-below : goal.returns-in-Some-clause-below
returns-in-Some-clause-below c =
    let net = c.args.structure.now in
    site_within net c.args.id.now c.args.side c.in-Some.site.level c.in-Some.site.node (at_site (site net c.args.id.now c.args.side) c.in-Some.site c.in-Some.ensures)
