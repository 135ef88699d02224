-- The groups of a level's nodes by one label per node: the index of the least node joined to it.
use Rattle.std.specs.Prelude.{◌≡◌, IsTrue, Some, ℕ, ◌<◌, ◌==◌, Bool, true, false, not, List, [], ◌++◌, length, map, filter, position, unwrap_or, slice_get, slice_index}
use Rattle.std.specs.List.{filter_map, zip}
use Rattle.grid_graph.specs.Components.{places}
use Rattle.grid_graph.specs.Graph.{Graph, graph, labels_of}
use Rattle.grid_queue.specs.Parents.{AreLabelsOf}
use Rattle.grid_level.specs.VoltageLevel.{VoltageLevel}
use Rattle.grid_level.specs.Kept.{among}
use Rattle.grid_level.specs.Passing.{Rule, switch_edge, internal_edge, ends, nodes, passing}
use Rattle.grid_groups.specs.declared.grouping.Group.{Group}

-- the index of a number in a list
unfoldable pub index_in : List ℕ → ℕ → ℕ
index_in ns n = unwrap_or (position (λ m. m == n) ns) 0

-- what a table has at a number of the list is the number's index
abbrev pub HoldsIndices : List ℕ → List ℕ → Type 0
HoldsIndices ns table = (n index : ℕ) → IsTrue (among ns n) → slice_get table n ≡ Some index → index ≡ index_in ns n

abbrev pub pair_of : ℕ → ℕ → ℕ × ℕ
pair_of first second = (first, second)

unfoldable pub pair_by_index : List ℕ → ℕ × ℕ → ℕ × ℕ
pair_by_index ns pair = (index_in ns pair.0, index_in ns pair.1)

-- the nodes by their indices, and the pairs that join them
unfoldable pub graph_among : List ℕ → List (ℕ × ℕ) → Graph
graph_among ns pairs = graph (length ns) (map (pair_by_index ns) pairs)

-- the nodes of a level by their indices, and the edges that pass under a rule
unfoldable pub graph_under : Rule → VoltageLevel → Graph
graph_under rule level = graph_among (nodes level) (passing rule level)

-- whether a flag lets pass, where those do that have one value
abbrev pub passing_flag : Bool → Bool → Bool
passing_flag true flag = flag
passing_flag false flag = not flag

-- which flags let pass, where those do that have one value
abbrev pub passing_flags : Bool → List Bool → List Bool
passing_flags true flags = flags
passing_flags false flags = map not flags

-- the ends of the switches whose flag is set, and of each internal connection
unfoldable pub passing_where : VoltageLevel → List Bool → List (ℕ × ℕ)
passing_where level passes =
    map (λ pair. ends (switch_edge pair.0)) (filter (λ pair. pair.1) (zip level.switches passes)) ++ map (λ i. ends (internal_edge i)) level.internals

-- labels of which the new ones are those of the nodes that some more pairs join, whatever pairs joined them before
abbrev pub Joins : ℕ → List (ℕ × ℕ) → List ℕ → List ℕ → Type 0
Joins count more old new = (pairs : List (ℕ × ℕ)) → AreLabelsOf (graph count pairs) old → AreLabelsOf (graph count (pairs ++ more)) new

-- the labels of a level's nodes, where the switches whose flag is set pass
unfoldable pub labels_where : VoltageLevel → List Bool → List ℕ
labels_where level passes = labels_of (graph_among (nodes level) (passing_where level passes))

-- the places of a list that hold a number, rising
unfoldable pub places_with : List ℕ → ℕ → List ℕ
places_with keys key = filter (λ k. slice_index keys k == key) (places (length keys))

-- the items at the places of a list
unfoldable pub items_at : {X : Type 0} → List X → List ℕ → List X
items_at xs ks = filter_map (slice_get xs) ks

-- the label of a node
unfoldable pub label_of : List ℕ → List ℕ → ℕ → ℕ
label_of ns labels node = slice_index labels (index_in ns node)

-- the label of each terminal's node
unfoldable pub labels_placed : VoltageLevel → List ℕ → List ℕ
labels_placed level labels = map (λ p. label_of (nodes level) labels p.node) level.placed

-- the indices that are their own labels: those of the least nodes
unfoldable pub leading : List ℕ → List ℕ
leading labels = filter (λ k. slice_index labels k == k) (places (length labels))

-- at each leader below a count, how many leaders come before it
abbrev pub AreNumbers : List ℕ → ℕ → List ℕ → Type 0
AreNumbers labels count numbers =
    (length numbers ≡ length labels) × ((k : ℕ) → k < count → slice_index labels k ≡ k → slice_index numbers k ≡ length (filter (λ j. slice_index labels j == j) (places k)))

-- past the end of a list of groups
abbrev pub no_group : Group
no_group = record { least = 0; nodes = []; terminals = [] }

-- the group of a leader whose nodes have some indices, and whose terminals some places
unfoldable pub group_of : VoltageLevel → ℕ → List ℕ → List ℕ → Group
group_of level leader indices terminals = record {
  least = slice_index (nodes level) leader;
  nodes = items_at (nodes level) indices;
  terminals = terminals;
}

-- the nodes with a label, and the places of their terminals among those of the level
unfoldable pub group_at : VoltageLevel → List ℕ → ℕ → Group
group_at level labels leader = group_of level leader (places_with labels leader) (places_with (labels_placed level labels) leader)

-- the groups by their least nodes
unfoldable pub groups_by : VoltageLevel → List ℕ → List Group
groups_by level labels = map (group_at level labels) (leading labels)

-- these are places among a level's terminals
abbrev pub ArePlacesOf : VoltageLevel → List ℕ → Type 0
ArePlacesOf level ks = (i : ℕ) → i < length ks → slice_index ks i < length level.placed

abbrev pub HasPlacesOf : VoltageLevel → Group → Type 0
HasPlacesOf level group = ArePlacesOf level group.terminals
