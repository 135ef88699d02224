use Rattle.std.proofs.Common.{arith}
use Rattle.grid_level.specs.Passing.{nodes}
use Rattle.grid_groups.proofs.Indices.{among_In, index_below}
use Rattle.grid_connect.proofs.joined.has_mark.Goals as goal

pub bounds-marks-of_node : goal.bounds-marks-of_node
bounds-marks-of_node c =
    let low = index_below c.args.node (nodes c.args.indices.now) (among_In c.args.node (nodes c.args.indices.now) c.requires.node) in
    omega (arith, low, c.of_node.ensures, c.requires.long)
