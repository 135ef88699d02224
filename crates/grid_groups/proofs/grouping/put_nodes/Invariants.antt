use Rattle.grid_groups.specs.Labels.{leading}
use Rattle.grid_groups.proofs.GroupMembers.{AreGroups, nodes_to}
use Rattle.grid_groups.proofs.grouping.put_nodes.Given as goal

abbrev pub invariant-loop-index : goal.invariant-loop-index
invariant-loop-index l = AreGroups (nodes_to l.level l.labels l.index) (leading l.labels) l.groups.items
