-- Levels with the same ends have the same nets.
use Rattle.std.proofs.Common.{◌≡◌, refl, sym, ap, ◌∙◌, subst, ℕ, Bool, List, [], ◌∷◌, ◌++◌, Option, length}
use Rattle.std.specs.Prelude.{map}
use Rattle.std.proofs.lemmas.List.{length-map}
use Rattle.grid_level.specs.declared.Switch.{Switch}
use Rattle.grid_level.specs.VoltageLevel.{VoltageLevel}
use Rattle.grid_level.specs.Passing.{nodes, switch_edge, ends}
use Rattle.grid_groups.specs.Labels.{index_in}
use Rattle.grid_queue.specs.declared.net.NetEdge.{NetEdge}
use Rattle.grid_queue.specs.Net.{NetShape, shape}
use Rattle.grid_busbreaker.specs.Labelled.{passing_flags}
use Rattle.grid_groups.specs.Nets.{switch_net_edge, internal_net_edge, switch_net_edges, net_edges, net_where, closed_flags}
use Rattle.grid_level.specs.Passing as passing
use Rattle.grid_bench.specs.Ends.{all_ends, SameEnds}
use Rattle.grid_bench.specs.declared.shown.Shown.{Shown}
use Rattle.grid_bench.specs.Contents.{content, IsShownOf, IsKept}

pub own_ends : (level : VoltageLevel) → SameEnds level level
own_ends level = record { same_nodes = refl; same_switches = refl; same_internals = refl }

pub ends_of_same : (level other : VoltageLevel) → level ≡ other → SameEnds level other
ends_of_same level other e = let P : VoltageLevel → Type 0 = λ z. SameEnds level z in subst P e (own_ends level)

pub same_many : (level other : VoltageLevel) → SameEnds level other → length level.switches ≡ length other.switches
same_many level other same =
    sym (length-map level.switches passing.switch_ends) ∙ ap length same.same_switches ∙ length-map other.switches passing.switch_ends

edges_as : (ns : List ℕ) (ss ts : List Switch) (flags : List Bool) → all_ends ss ≡ all_ends ts → switch_net_edges ns ss flags ≡ switch_net_edges ns ts flags
unfolding switch_net_edges ends
edges_as ns [] [] flags e = refl
edges_as ns [] (t ∷ ts) flags e = absurd (cc)
edges_as ns (s ∷ ss) [] flags e = absurd (cc)
edges_as ns (s ∷ ss) (t ∷ ts) [] e = refl
edges_as ns (s ∷ ss) (t ∷ ts) (f ∷ flags) e =
    let edge : ℕ × ℕ → NetEdge = λ pair. record { a = index_in ns pair.0; b = index_in ns pair.1; passing = f } in
    let pair : Switch → ℕ × ℕ = λ x. (x.node1, x.node2) in
    let here : pair s ≡ pair t = cc in
    let rest : all_ends ss ≡ all_ends ts = cc in
    ap (λ z. edge z ∷ switch_net_edges ns ss flags) here ∙ ap (λ z. switch_net_edge ns t f ∷ z) (edges_as ns ss ts flags rest)

pub net_as : (level other : VoltageLevel) (passes : List Bool) → SameEnds level other → net_where level passes ≡ net_where other passes
unfolding net_edges
net_as level other passes same =
    ap (λ z. shape (length z) (switch_net_edges z level.switches passes ++ map (internal_net_edge z) level.internals)) same.same_nodes
    ∙ ap (λ z. shape (length (nodes other)) (z ++ map (internal_net_edge (nodes other)) level.internals)) (edges_as (nodes other) level.switches other.switches passes same.same_switches)
    ∙ ap (λ z. shape (length (nodes other)) (switch_net_edges (nodes other) other.switches passes ++ map (internal_net_edge (nodes other)) z)) same.same_internals

-- the nets that are kept are also another level's with the same ends
pub kept_as : (level other : VoltageLevel) (opened retained : List Bool) (bus breaker : NetShape) (old new : Option Shown) → SameEnds level other → IsShownOf (content other opened retained) new
    → IsKept (content level opened retained) bus breaker old → IsKept (content other opened retained) bus breaker new
kept_as level other opened retained bus breaker old new same is kept =
    record {
      fits = record { opened = kept.fits.opened ∙ same_many level other same; retained = kept.fits.retained ∙ same_many level other same };
      bus_net = kept.bus_net ∙ net_as level other (closed_flags opened) same;
      breaker_net = kept.breaker_net ∙ net_as level other (passing_flags opened retained) same;
      view = is;
    }
