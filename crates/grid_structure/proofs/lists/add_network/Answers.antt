use Rattle.grid_structure.proofs.ListedParts.{network_added, substations_refused}
use Rattle.grid_structure.proofs.lists.add_network.Goals as goal

pub returns-in_err-add_substations : goal.returns-in_err-add_substations
returns-in_err-add_substations c =
    substations_refused c.args.lists c.args.structure.now c.add_substations.new.structure c.from_residual.result c.in_err-add_substations.field-0.0 c.from_residual.ensures.1 c.in_err-add_substations.ensures

pub returns : goal.returns
returns c = network_added c.args.lists c.args.structure.now c.add_each.new.structure c.add_each.result c.add_substations.new.structure c.in_ok-add_substations.ensures c.add_each.ensures
