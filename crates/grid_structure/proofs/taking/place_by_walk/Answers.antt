use Rattle.std.proofs.Common.{sym}
use Rattle.grid_structure.proofs.BranchRemovals.{named_found}
use Rattle.grid_structure.proofs.taking.place_by_walk.Goals as goal

pub returns-in-Some : goal.returns-in-Some
returns-in-Some c = named_found c.args.id.now c.args.lines.now.items c.in-Some.place (sym c.in-Some.ensures)

pub returns-in-Some-place_in_list : goal.returns-in-Some-place_in_list
returns-in-Some-place_in_list c = named_found c.args.id.now c.args.transformers.now.items c.in-Some-place_in_list.place (sym c.in-Some-place_in_list.ensures)

pub returns-in-None-place_in_list : goal.returns-in-None-place_in_list
returns-in-None-place_in_list c = (sym c.in-None-place_in_list.ensures, sym c.in-None.ensures)
