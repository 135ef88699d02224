use Rattle.grid_unions.specs.declared.sweeps.Found.{Found}
use Rattle.grid_unions.specs.Sweep.{IsFound}
use Rattle.grid_unions.proofs.Changes.{found_here, one_found}
use Rattle.grid_unions.proofs.sweeps.Board.look.Goals as goal

pub returns-clause-found : goal.returns-clause-found
returns-clause-found c =
    let before = c.args.self.now.summed in
    let now = c.join_all.new.summed in
    let found : Found = record { classes = c.classes.result; main = c.greatest-main.result; size = c.size.result; sums = c.sums.result } in
    let is : IsFound now.weights now.net found =
    record { classes = c.classes.ensures; main = c.greatest-main.ensures; size = c.size.ensures; load = c.sums.ensures.load; generation = c.sums.ensures.generation } in
    one_found before.weights c.args.common.now c.args.change.now found c.args.self.now.found.items c.push.new.self.items (c.in_ok-push.ensures).items
    (found_here before now c.args.common.now c.args.change.now c.slice.result.now found c.slice.ensures c.in_ok-join_all.ensures c.requires.ready
    c.well_formed-2.ensures.ends c.well_formed-2.ensures.long is)
