use Rattle.std.proofs.Common.{arith}
use Rattle.grid_structure.specs.Lists.{level_listed}
use Rattle.grid_structure.proofs.ListLoops.{goes_on, ends, is_done}
use Rattle.grid_structure.proofs.lists.add_levels.Goals as goal

pub loop-level-preserved : goal.loop-level-preserved
loop-level-preserved c =
    let l = c.loop-level in
    goes_on (level_listed c.args.substation.now) l.structure c.add_level.new.structure l.level-iterator.rest.items _ c.in-Some.level _ c.in-Some.ensures.steps.0 c.in_ok-add_level.ensures l.invariant

pub returns-in_err-add_level : goal.returns-in_err-add_level
returns-in_err-add_level c =
    let l = c.loop-level in
    ends (level_listed c.args.substation.now) c.args.structure.now l.structure c.add_level.new.structure c.args.levels l.level-iterator.rest.items _ c.in-Some.level c.from_residual.result c.in_err-add_level.field-0.0 c.in-Some.ensures.steps.0 c.from_residual.ensures.1 c.in_err-add_level.ensures l.invariant

pub returns : goal.returns
returns c =
    let l = c.loop-level in
    let none = c.in-None.ensures.steps.0 in
    is_done (level_listed c.args.substation.now) l.structure l.level-iterator.rest.items _ (omega (arith, none, l.level-iterator.rest.ok)) l.invariant
