use Rattle.grid_level.specs.Passing.{nodes}
use Rattle.grid_groups.proofs.IndexTables.{HoldsBelow}
use Rattle.grid_groups.proofs.node_indices.table_of.Given as goal

abbrev pub invariant-loop-index : goal.invariant-loop-index
invariant-loop-index l = HoldsBelow (nodes l.level) l.index l.table.items
