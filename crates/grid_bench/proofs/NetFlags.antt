-- A level's net when the flag of a switch is set.
use Rattle.std.proofs.Common.{◌≡◌, refl, sym, ap, ◌∙◌, ℕ, zero, suc, ◌<◌, Bool, not, ◌&&◌, List, [], ◌∷◌, ◌++◌, length, get_or, set, Some, arith}
use Rattle.std.proofs.lemmas.List.{map-set}
use Rattle.std.specs.Prelude.{map, slice_get}
use Rattle.grid_level.specs.declared.Switch.{Switch}
use Rattle.grid_level.specs.VoltageLevel.{VoltageLevel}
use Rattle.grid_level.specs.Passing.{bus, breaker, nodes, passing, stood}
use Rattle.grid_groups.specs.Labels.{index_in, graph_among, graph_under}
use Rattle.grid_groups.proofs.PassingEdges.{nodes-stood, passing_bus, passing_breaker, passing_bus-stood}
use Rattle.grid_queue.specs.declared.net.NetEdge.{NetEdge}
use Rattle.grid_queue.specs.Net.{shape, no_edge, repassed, with_passing, passes, passing_graph}
use Rattle.grid_labels.specs.Labels.{edge_between}
use Rattle.grid_busbreaker.specs.Labelled.{passing_flags}
use Rattle.grid_groups.specs.Nets.{switch_net_edge, internal_net_edge, switch_net_edges, net_edges, net_where, closed_flags}
use Rattle.grid_bench.specs.Nets.{AreEnds}
use Rattle.grid_groups.proofs.NetEdges.{net_passes}

edge_at : (ns : List ℕ) (ss : List Switch) (flags : List Bool) (rest : List NetEdge) (k : ℕ) (s : Switch) → length flags ≡ length ss → slice_get ss k ≡ Some s
    → slice_get (switch_net_edges ns ss flags ++ rest) k ≡ Some (edge_between (index_in ns s.node1) (index_in ns s.node2) (passes (switch_net_edges ns ss flags ++ rest) k))
unfolding switch_net_edges
edge_at ns [] flags rest k s e h = absurd (cc)
edge_at ns (t ∷ ss) [] rest k s e h = absurd (omega (arith, e))
edge_at ns (t ∷ ss) (f ∷ flags) rest zero s e h = let same : t ≡ s = cc in ap (λ z. Some (switch_net_edge ns z f)) same
edge_at ns (t ∷ ss) (f ∷ flags) rest (suc k) s e h = edge_at ns ss flags rest k s (omega (arith, e)) h

-- the edge of a switch
pub edge_there : (level : VoltageLevel) (flags : List Bool) (k a b : ℕ) → length flags ≡ length level.switches → AreEnds level k a b
    → slice_get (net_edges level flags) k ≡ Some (edge_between a b (passes (net_edges level flags) k))
unfolding net_edges
edge_there level flags k a b e ends =
    let all = switch_net_edges (nodes level) level.switches flags ++ map (internal_net_edge (nodes level)) level.internals in
    edge_at (nodes level) level.switches flags (map (internal_net_edge (nodes level)) level.internals) k ends.0 e ends.1
    ∙ ap (λ z. Some (edge_between z (index_in (nodes level) ends.0.node2) (passes all k))) (sym ends.2)
    ∙ ap (λ z. Some (edge_between a z (passes all k))) (sym ends.3)

set_edge : (ns : List ℕ) (ss : List Switch) (flags : List Bool) (rest : List NetEdge) (k : ℕ) (t : Bool) → length flags ≡ length ss → k < length ss
    → set (switch_net_edges ns ss flags ++ rest) k (repassed (get_or (switch_net_edges ns ss flags ++ rest) k no_edge) t) ≡ switch_net_edges ns ss (set flags k t) ++ rest
unfolding switch_net_edges
set_edge ns [] flags rest k t e lt = absurd (omega arith)
set_edge ns (s ∷ ss) [] rest k t e lt = absurd (omega (arith, e))
set_edge ns (s ∷ ss) (f ∷ flags) rest zero t e lt = refl
set_edge ns (s ∷ ss) (f ∷ flags) rest (suc k) t e lt = ap (λ z. switch_net_edge ns s f ∷ z) (set_edge ns ss flags rest k t (omega (arith, e)) (omega (arith, lt)))

-- the net with another flag at a switch
pub net_set : (level : VoltageLevel) (flags : List Bool) (k : ℕ) (t : Bool) → length flags ≡ length level.switches → k < length level.switches
    → with_passing (net_where level flags) k t ≡ net_where level (set flags k t)
unfolding net_edges
net_set level flags k t e lt = ap (shape (length (nodes level))) (set_edge (nodes level) level.switches flags (map (internal_net_edge (nodes level)) level.internals) k t e lt)

pub closed_set : (opened : List Bool) (k : ℕ) (o : Bool) → set (closed_flags opened) k (not o) ≡ closed_flags (set opened k o)
closed_set opened k o = sym (map-set not opened k o)

pub passing_set : (os rs : List Bool) (k : ℕ) (o r : Bool) → length os ≡ length rs → set (passing_flags os rs) k (not o && not r) ≡ passing_flags (set os k o) (set rs k r)
passing_set [] [] k o r e = refl
passing_set [] (y ∷ rs) k o r e = absurd (omega (arith, e))
passing_set (x ∷ os) [] k o r e = absurd (omega (arith, e))
passing_set (x ∷ os) (y ∷ rs) zero o r e = refl
passing_set (x ∷ os) (y ∷ rs) (suc k) o r e = ap (λ z. (not x && not y) ∷ z) (passing_set os rs k o r (omega (arith, e)))

-- ---- the nets are the level's graphs

pub bus_graph : (level : VoltageLevel) (opened retained : List Bool) → length opened ≡ length level.switches → passing_graph (net_where level (closed_flags opened)) ≡ graph_under bus (stood level opened retained)
unfolding graph_under
bus_graph level opened retained e =
    net_passes level (closed_flags opened)
    ∙ ap (graph_among (nodes level)) (sym (passing_bus-stood level opened retained ∙ passing_bus level opened e))
    ∙ ap (λ z. graph_among z (passing bus (stood level opened retained))) (sym (nodes-stood level opened retained))

pub breaker_graph : (level : VoltageLevel) (opened retained : List Bool) → length opened ≡ length level.switches → length retained ≡ length level.switches
    → passing_graph (net_where level (passing_flags opened retained)) ≡ graph_under breaker (stood level opened retained)
unfolding graph_under
breaker_graph level opened retained e f =
    net_passes level (passing_flags opened retained)
    ∙ ap (graph_among (nodes level)) (sym (passing_breaker level opened retained e f))
    ∙ ap (λ z. graph_among z (passing breaker (stood level opened retained))) (sym (nodes-stood level opened retained))

pub got_here : {X : Type 0} (xs : List X) (k : ℕ) (x : X) → slice_get xs k ≡ Some x → (k < length xs) × (x ≡ get_or xs k x)
got_here [] k x h = absurd (cc)
got_here (y ∷ xs) zero x h = (omega arith, (let same : y ≡ x = cc in sym same))
got_here (y ∷ xs) (suc k) x h = let r = got_here xs k x h in (omega (arith, r.0), r.1)
