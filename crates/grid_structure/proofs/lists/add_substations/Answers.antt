use Rattle.std.proofs.Common.{arith}
use Rattle.grid_structure.specs.Lists.{substation_listed}
use Rattle.grid_structure.proofs.ListLoops.{goes_on, ends, is_done}
use Rattle.grid_structure.proofs.lists.add_substations.Goals as goal

pub loop-substation-preserved : goal.loop-substation-preserved
loop-substation-preserved c =
    let l = c.loop-substation in
    goes_on substation_listed l.structure c.add_substation.new.structure l.substation-iterator.rest.items _ c.in-Some.substation _ c.in-Some.ensures.steps.0 c.in_ok-add_substation.ensures l.invariant

pub returns-in_err-add_substation : goal.returns-in_err-add_substation
returns-in_err-add_substation c =
    let l = c.loop-substation in
    ends substation_listed c.args.structure.now l.structure c.add_substation.new.structure c.args.substations l.substation-iterator.rest.items _ c.in-Some.substation c.from_residual.result c.in_err-add_substation.field-0.0 c.in-Some.ensures.steps.0 c.from_residual.ensures.1 c.in_err-add_substation.ensures l.invariant

pub returns : goal.returns
returns c =
    let l = c.loop-substation in
    let none = c.in-None.ensures.steps.0 in
    is_done substation_listed l.structure l.substation-iterator.rest.items _ (omega (arith, none, l.substation-iterator.rest.ok)) l.invariant
