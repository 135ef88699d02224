use Rattle.grid_structure.proofs.ListedParts.{level_added, level_refused, busbar_refused, switch_refused, internal_refused}
use Rattle.grid_structure.proofs.lists.add_level.Goals as goal

pub returns-in_err-add_bare : goal.returns-in_err-add_bare
returns-in_err-add_bare c =
    level_refused c.args.substation.now c.args.level c.args.structure.now c.add_bare.new.structure c.from_residual.result c.in_err-add_bare.field-0.0 c.from_residual.ensures.1 c.in_err-add_bare.ensures.refused

pub returns-in_err-add_each : goal.returns-in_err-add_each
returns-in_err-add_each c =
    busbar_refused c.args.substation.now c.args.level c.args.structure.now c.add_each.new.structure c.from_residual-in_err-add_each.result c.in_err-add_each.field-0.0 c.from_residual-in_err-add_each.ensures.1 c.add_bare.new.structure c.in_ok-add_bare.ensures.done c.in_err-add_each.ensures

pub returns-in_err-add_each-2 : goal.returns-in_err-add_each-2
returns-in_err-add_each-2 c =
    switch_refused c.args.substation.now c.args.level c.args.structure.now c.add_each-2.new.structure c.from_residual-in_err-add_each-2.result c.in_err-add_each-2.field-0.0 c.from_residual-in_err-add_each-2.ensures.1 c.add_bare.new.structure c.add_each.new.structure c.in_ok-add_bare.ensures.done
    c.in_ok-add_each.ensures c.in_err-add_each-2.ensures

pub returns-in_err-add_each-3 : goal.returns-in_err-add_each-3
returns-in_err-add_each-3 c =
    internal_refused c.args.substation.now c.args.level c.args.structure.now c.add_each-3.new.structure c.from_residual-in_err-add_each-3.result c.in_err-add_each-3.field-0.0 c.from_residual-in_err-add_each-3.ensures.1 c.add_bare.new.structure c.add_each.new.structure c.add_each-2.new.structure
    c.in_ok-add_bare.ensures.done c.in_ok-add_each.ensures c.in_ok-add_each-2.ensures c.in_err-add_each-3.ensures

pub returns : goal.returns
returns c =
    level_added c.args.substation.now c.args.level c.args.structure.now c.add_each-4.new.structure c.add_each-4.result c.add_bare.new.structure c.add_each.new.structure c.add_each-2.new.structure c.add_each-3.new.structure c.in_ok-add_bare.ensures.done
    c.in_ok-add_each.ensures c.in_ok-add_each-2.ensures c.in_ok-add_each-3.ensures c.add_each-4.ensures
