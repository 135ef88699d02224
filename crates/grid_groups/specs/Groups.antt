-- The groups of a level's nodes under a rule, and what stands in them.
use Rattle.std.specs.Prelude.{ℕ, List, map, slice_index}
use Rattle.grid_graph.specs.Joined.{group_of, least_nodes}
use Rattle.grid_level.specs.declared.Terminal.{Terminal}
use Rattle.grid_level.specs.VoltageLevel.{VoltageLevel}
use Rattle.grid_level.specs.Passing.{Rule, nodes, passing, placed_among}

-- the rising list of the nodes joined to a node
unfoldable pub group_under : Rule → VoltageLevel → ℕ → List ℕ
group_under rule level node = group_of (nodes level) (passing rule level) node

-- the least nodes of the groups, rising
unfoldable pub leaders : Rule → VoltageLevel → List ℕ
leaders rule level = least_nodes (nodes level) (passing rule level)

-- the least node joined to a node
unfoldable pub leader_of : Rule → VoltageLevel → ℕ → ℕ
leader_of rule level node = slice_index (group_under rule level node) 0

-- the terminals that stand at the nodes of a list, by rising node
unfoldable pub terminals_at : VoltageLevel → List ℕ → List Terminal
terminals_at level ns = map (λ p. p.terminal) (placed_among level ns)
