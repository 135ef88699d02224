use Rattle.std.proofs.Common.{◌≡◌, ◌<◌, true, length, get_or, Some, arith}
use Rattle.grid_islands.specs.Rejoining.{is_marked}
use Rattle.grid_graph.proofs.Below.{pairs_below}
use Rattle.grid_graph.proofs.Reach.{neighbours_back}
use Rattle.grid_islands.specs.Spots.{pairs_of_buses}
use Rattle.grid_islands.proofs.BranchEnds.{joins_of, first_second, second_first, first_third, third_first, second_third, third_second}
use Rattle.grid_islands.proofs.rejoining.mark_branch.Goals as goal

pub returns-clause-marked : goal.returns-clause-marked
returns-clause-marked c ends below bus other i =
    let b = c.args.branch.now in
    let n = length c.args.labels.now in
    let lt : bus < n = (pairs_below n (pairs_of_buses b) ends).across other bus (neighbours_back (pairs_of_buses b) bus other i) in
    let fits = below bus lt in
    let second_fits : get_or c.args.labels.now bus 0 < length c.mark_bus.new.marks.items = omega (arith, fits, c.mark_bus.ensures.long) in
    let third_fits : get_or c.args.labels.now bus 0 < length c.mark_bus-2.new.marks.items = omega (arith, fits, c.mark_bus.ensures.long, c.mark_bus-2.ensures.long) in
    let one : b.first ≡ Some bus → is_marked c.args.labels.now c.mark_bus-3.new.marks.items bus ≡ true = λ e. c.mark_bus-3.ensures.kept bus (c.mark_bus-2.ensures.kept bus (c.mark_bus.ensures.marked bus e lt fits)) in
    let two : b.second ≡ Some bus → is_marked c.args.labels.now c.mark_bus-3.new.marks.items bus ≡ true = λ e. c.mark_bus-3.ensures.kept bus (c.mark_bus-2.ensures.marked bus e lt second_fits) in
    let three : b.third ≡ Some bus → is_marked c.args.labels.now c.mark_bus-3.new.marks.items bus ≡ true = λ e. c.mark_bus-3.ensures.marked bus e lt third_fits in
    elim (joins_of b bus other i) [
      | first_second e f ↦ one e
      | second_first e f ↦ two f
      | first_third e f ↦ one e
      | third_first e f ↦ three f
      | second_third e f ↦ two e
      | third_second e f ↦ three f
    ]
