use Rattle.grid_structure.proofs.ListedParts.{substation_added, substation_refused, levels_refused}
use Rattle.grid_structure.proofs.lists.add_substation.Goals as goal

pub returns-in_err-add_substation : goal.returns-in_err-add_substation
returns-in_err-add_substation c =
    substation_refused c.args.substation c.args.structure.now c.add_substation.new.self c.from_residual.result c.in_err-add_substation.field-0.0 c.from_residual.ensures.1 c.in_err-add_substation.ensures.refused

pub returns-in_err-add_levels : goal.returns-in_err-add_levels
returns-in_err-add_levels c =
    levels_refused c.args.substation c.args.structure.now c.add_levels.new.structure c.from_residual-in_err-add_levels.result c.in_err-add_levels.field-0.0 c.from_residual-in_err-add_levels.ensures.1 c.add_substation.new.self c.in_ok-add_substation.ensures.done c.in_err-add_levels.ensures

pub returns : goal.returns
returns c =
    substation_added c.args.substation c.args.structure.now c.add_each.new.structure c.add_each.result c.add_substation.new.self c.add_levels.new.structure c.in_ok-add_substation.ensures.done c.in_ok-add_levels.ensures c.add_each.ensures
