-- A level's nodes by their indices: its edges as edges of paths, and one mark per node.
use Rattle.std.specs.Prelude.{◌≡◌, ℕ, ◌+◌, Bool, not, ◌&&◌, ◌||◌, ◌==◌, if◌then◌else◌, IsTrue, Option, List, [], ◌∷◌, length, map, find}
use Rattle.std.specs.List.{zip, list_any}
use Rattle.grid_paths.specs.declared.Way.{Way}
use Rattle.grid_paths.specs.declared.Way.TheVariants.{Free, Closable, Barred}
use Rattle.grid_paths.specs.Routes.{PathEdge, is_goal}
use Rattle.grid_level.specs.declared.Switch.{Switch}
use Rattle.grid_level.specs.declared.Internal.{Internal}
use Rattle.grid_level.specs.declared.Placed.{Placed}
use Rattle.grid_level.specs.VoltageLevel.{VoltageLevel}
use Rattle.grid_level.specs.Passing.{Edge, switch_edge, internal_edge, edges, nodes, is_operable, is_busbar, carries_busbar}
use Rattle.grid_level.specs.Kept.{among}
use Rattle.grid_groups.specs.Labels.{index_in, label_of, labels_where}
use Rattle.grid_groups.specs.Nets.{net_where, closed_flags}
use Rattle.grid_queue.specs.Net.{NetShape}

-- ---- edges of paths

-- a closed switch may be passed, an open operable breaker once it is closed, and no other open switch
abbrev pub way_through : Switch → Bool → Way
way_through s opened = if opened then (if is_operable s then Closable else Barred) else Free

abbrev pub switch_path_edge : List ℕ → Switch → Bool → PathEdge
switch_path_edge ns s opened = record { a = index_in ns s.node1; b = index_in ns s.node2; way = way_through s opened }

abbrev pub internal_path_edge : List ℕ → Internal → PathEdge
internal_path_edge ns i = record { a = index_in ns i.node1; b = index_in ns i.node2; way = Free }

unfoldable pub path_edge : List ℕ → Edge → PathEdge
path_edge ns (switch_edge s) = switch_path_edge ns s s.opened
path_edge ns (internal_edge i) = internal_path_edge ns i

unfoldable pub path_edges_of : VoltageLevel → List PathEdge
path_edges_of level = map (path_edge (nodes level)) (edges level)

-- the switches in these positions
unfoldable pub switch_path_edges : List ℕ → List Switch → List Bool → List PathEdge
switch_path_edges ns switches states = map (λ pair. switch_path_edge ns pair.0 pair.1) (zip switches states)

-- this is the net of the level where its closed switches pass
pub record IsBusNet (level : VoltageLevel) (states : List Bool) (net : NetShape) : Type 0 where
  pub flags : length states ≡ length level.switches
  pub same : net ≡ net_where level (closed_flags states)

-- ---- one mark per node

-- the marked nodes are those with a busbar section
abbrev pub AreBusbars : VoltageLevel → List Bool → Type 0
AreBusbars level marks = (n : ℕ) → IsTrue (among (nodes level) n) → is_goal marks (index_in (nodes level) n) ≡ carries_busbar level n

-- the marked nodes are those joined to a node by the switches whose flag is set and by internal connections
unfoldable pub marks_where : VoltageLevel → List Bool → ℕ → List Bool
marks_where level passes node =
    let labels = labels_where level passes in
    map (λ label. label == label_of (nodes level) labels node) labels

-- which switches pass under core: the closed ones that are not operable breakers
abbrev pub core_flags : List Switch → List Bool → List Bool
core_flags switches states = map (λ pair. not pair.1 && not (is_operable pair.0)) (zip switches states)

abbrev pub is_marked : List ℕ → List Bool → ℕ → Bool
is_marked ns marks node = is_goal marks (index_in ns node)

-- the first busbar section at a marked node
unfoldable pub marked_busbar : List ℕ → List Bool → List Placed → Option Placed
marked_busbar ns marks placed = find (λ p. is_marked ns marks p.node && is_busbar p.stand) placed

-- a busbar section stands at a node with this label
unfoldable pub labelled_busbar : List ℕ → List ℕ → ℕ → List Placed → Bool
labelled_busbar ns labels own placed = list_any (λ p. (label_of ns labels p.node == own) && is_busbar p.stand) placed

-- a closed operable breaker with exactly one marked end
abbrev pub leaves_marked : List ℕ → List Bool → Switch → Bool → Bool
leaves_marked ns marks s opened =
    not opened && is_operable s
    && ((is_marked ns marks s.node1 && not (is_marked ns marks s.node2)) || (not (is_marked ns marks s.node1) && is_marked ns marks s.node2))

-- the places of these, from a place on
unfoldable pub leaving_marked : List ℕ → List Bool → ℕ → List Switch → List Bool → List ℕ
leaving_marked ns marks k (s ∷ switches) (opened ∷ states) =
    if leaves_marked ns marks s opened then k ∷ leaving_marked ns marks (k + 1) switches states else leaving_marked ns marks (k + 1) switches states
leaving_marked ns marks k switches states = []
