-- The edges of a level's net, and what passes there.
use Rattle.std.proofs.Common.{◌≡◌, refl, sym, ap, ◌∙◌, ℕ, zero, suc, ◌<◌, ◌≤◌, Bool, true, false, not, ◌&&◌, List, [], ◌∷◌, ◌++◌, length, arith, length-append}
use Rattle.std.proofs.lemmas.Bool.{eq-eqb, false≢true, and_parts}
use Rattle.std.proofs.lemmas.List.{length-map}
use Rattle.std.proofs.lemmas.Slice.Zip.{length-zip}
use Rattle.std.specs.Prelude.{eqb, map, filter, All}
use Rattle.std.specs.List.{list_all, zip}
use Rattle.grid_level.specs.declared.Switch.{Switch}
use Rattle.grid_level.specs.declared.Internal.{Internal}
use Rattle.grid_level.specs.VoltageLevel.{VoltageLevel}
use Rattle.grid_level.specs.Passing.{switch_edge, internal_edge, edges, ends, nodes}
use Rattle.grid_level.specs.Sound.{ends_differ}
use Rattle.grid_level.specs.Kept.{KeepsLimits, among, ends_among}
use Rattle.grid_groups.specs.Labels.{index_in, pair_by_index, passing_where, graph_among, labels_where}
use Rattle.grid_groups.proofs.Indices.{among_In, index_below, index_apart}
use Rattle.grid_graph.specs.Graph.{graph, labels_of}
use Rattle.grid_queue.specs.declared.net.NetEdge.{NetEdge}
use Rattle.grid_queue.specs.Net.{EndsFit, passing_pairs, passing_graph}
use Rattle.grid_groups.specs.Nets.{switch_net_edge, internal_net_edge, switch_net_edges, net_edges, net_where}

-- ---- the ends of edges

apart : (x y : ℕ) → not (eqb x y) ≡ true → x ≡ y → ⊥
apart x y h e = false≢true (sym (ap not (eq-eqb x y e)) ∙ h)

fit : (ns : List ℕ) (x y : ℕ) → (among ns x && among ns y) ≡ true → not (eqb x y) ≡ true → (index_in ns x < length ns) × (index_in ns y < length ns) × (index_in ns x ≡ index_in ns y → ⊥)
fit ns x y h d =
    let parts = and_parts (among ns x) (among ns y) h in
    let i = among_In x ns parts.0 in
    let j = among_In y ns parts.1 in
    (index_below x ns i, index_below y ns j, λ e. apart x y d ((index_apart ns).apart x y i j e))

edges_fit : (ns : List ℕ) (ss : List Switch) (flags : List Bool) (is : List Internal) → length flags ≡ length ss
    → list_all (ends_among ns) (map switch_edge ss ++ map internal_edge is) ≡ true → list_all ends_differ (map switch_edge ss ++ map internal_edge is) ≡ true
    → All (EndsFit (length ns)) (switch_net_edges ns ss flags ++ map (internal_net_edge ns) is)
unfolding switch_net_edges ends ends_differ
edges_fit ns [] flags [] e h u k d lt = absurd (omega arith)
edges_fit ns [] flags (i ∷ is) e h u zero d lt =
    fit ns i.node1 i.node2 (and_parts (among ns i.node1 && among ns i.node2) (list_all (ends_among ns) (map internal_edge is)) h).0
    (and_parts (not (eqb i.node1 i.node2)) (list_all ends_differ (map internal_edge is)) u).0
edges_fit ns [] flags (i ∷ is) e h u (suc k) d lt =
    edges_fit ns [] flags is e (and_parts (among ns i.node1 && among ns i.node2) (list_all (ends_among ns) (map internal_edge is)) h).1
    (and_parts (not (eqb i.node1 i.node2)) (list_all ends_differ (map internal_edge is)) u).1 k d (omega arith)
edges_fit ns (s ∷ ss) [] is e h u k d lt = absurd (omega (arith, e))
edges_fit ns (s ∷ ss) (f ∷ flags) is e h u zero d lt =
    fit ns s.node1 s.node2 (and_parts (among ns s.node1 && among ns s.node2) (list_all (ends_among ns) (map switch_edge ss ++ map internal_edge is)) h).0
    (and_parts (not (eqb s.node1 s.node2)) (list_all ends_differ (map switch_edge ss ++ map internal_edge is)) u).0
edges_fit ns (s ∷ ss) (f ∷ flags) is e h u (suc k) d lt =
    edges_fit ns ss flags is (omega (arith, e)) (and_parts (among ns s.node1 && among ns s.node2) (list_all (ends_among ns) (map switch_edge ss ++ map internal_edge is)) h).1
    (and_parts (not (eqb s.node1 s.node2)) (list_all ends_differ (map switch_edge ss ++ map internal_edge is)) u).1 k d (omega arith)

pub net_edges_fit : (level : VoltageLevel) (passes : List Bool) → KeepsLimits level → length passes ≡ length level.switches → All (EndsFit (length (nodes level))) (net_edges level passes)
unfolding net_edges edges
net_edges_fit level passes keeps e = edges_fit (nodes level) level.switches passes level.internals e keeps.ends_are_nodes keeps.ends_differ

pub net_edges_few : (level : VoltageLevel) (passes : List Bool) → KeepsLimits level → length passes ≡ length level.switches → length (net_edges level passes) ≤ 4096
unfolding net_edges switch_net_edges edges
net_edges_few level passes keeps e =
    let edge : Switch × Bool → NetEdge = λ pair. switch_net_edge (nodes level) pair.0 pair.1 in
    let a = length-append (map edge (zip level.switches passes)) (map (internal_net_edge (nodes level)) level.internals) in
    let b = length-map (zip level.switches passes) edge in
    let c = length-map level.internals (internal_net_edge (nodes level)) in
    let d = length-append (map switch_edge level.switches) (map internal_edge level.internals) in
    let f = length-map level.switches switch_edge in
    let g = length-map level.internals internal_edge in
    omega (arith, a, b, c, d, f, g, length-zip level.switches passes, keeps.few_edges)

-- ---- what passes

internals_pass : (ns : List ℕ) (is : List Internal) → passing_pairs (map (internal_net_edge ns) is) ≡ map (pair_by_index ns) (map (λ i. ends (internal_edge i)) is)
unfolding passing_pairs pair_by_index ends
internals_pass ns [] = refl
internals_pass ns (i ∷ is) = ap (λ z. (index_in ns i.node1, index_in ns i.node2) ∷ z) (internals_pass ns is)

switches_pass : (ns : List ℕ) (ss : List Switch) (flags : List Bool) (is : List Internal)
    → passing_pairs (switch_net_edges ns ss flags ++ map (internal_net_edge ns) is)
    ≡ map (pair_by_index ns) (map (λ pair. ends (switch_edge pair.0)) (filter (λ pair. pair.1) (zip ss flags)) ++ map (λ i. ends (internal_edge i)) is)
unfolding passing_pairs switch_net_edges pair_by_index ends
switches_pass ns [] flags is = internals_pass ns is
switches_pass ns (s ∷ ss) [] is = internals_pass ns is
switches_pass ns (s ∷ ss) (true ∷ flags) is = ap (λ z. (index_in ns s.node1, index_in ns s.node2) ∷ z) (switches_pass ns ss flags is)
switches_pass ns (s ∷ ss) (false ∷ flags) is = switches_pass ns ss flags is

pub net_passes : (level : VoltageLevel) (passes : List Bool) → passing_graph (net_where level passes) ≡ graph_among (nodes level) (passing_where level passes)
unfolding net_edges passing_where graph_among
net_passes level passes = ap (graph (length (nodes level))) (switches_pass (nodes level) level.switches passes level.internals)

pub net_labels : (level : VoltageLevel) (passes : List Bool) → labels_of (passing_graph (net_where level passes)) ≡ labels_where level passes
unfolding labels_where
net_labels level passes = ap labels_of (net_passes level passes)
