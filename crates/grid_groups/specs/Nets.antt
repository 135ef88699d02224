-- A level's net: its nodes by their indices, and its edges, of which the switches pass whose flag is set.
use Rattle.std.specs.Prelude.{ℕ, Bool, true, not, List, ◌++◌, length, map}
use Rattle.std.specs.List.{zip}
use Rattle.grid_level.specs.declared.Switch.{Switch}
use Rattle.grid_level.specs.declared.Internal.{Internal}
use Rattle.grid_level.specs.VoltageLevel.{VoltageLevel}
use Rattle.grid_level.specs.Passing.{nodes}
use Rattle.grid_queue.specs.declared.net.NetEdge.{NetEdge}
use Rattle.grid_queue.specs.Net.{NetShape, shape}
use Rattle.grid_groups.specs.Labels.{index_in}

abbrev pub switch_net_edge : List ℕ → Switch → Bool → NetEdge
switch_net_edge ns s passing = record { a = index_in ns s.node1; b = index_in ns s.node2; passing = passing }

abbrev pub internal_net_edge : List ℕ → Internal → NetEdge
internal_net_edge ns i = record { a = index_in ns i.node1; b = index_in ns i.node2; passing = true }

unfoldable pub switch_net_edges : List ℕ → List Switch → List Bool → List NetEdge
switch_net_edges ns switches passes = map (λ pair. switch_net_edge ns pair.0 pair.1) (zip switches passes)

-- the switches, then the internal connections
unfoldable pub net_edges : VoltageLevel → List Bool → List NetEdge
net_edges level passes = switch_net_edges (nodes level) level.switches passes ++ map (internal_net_edge (nodes level)) level.internals

abbrev pub net_where : VoltageLevel → List Bool → NetShape
net_where level passes = shape (length (nodes level)) (net_edges level passes)

-- which switches pass in the bus view: the closed ones
abbrev pub closed_flags : List Bool → List Bool
closed_flags opened = map not opened
