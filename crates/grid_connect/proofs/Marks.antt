-- What one mark per node tells.
use Rattle.std.proofs.Common.{◌≡◌, refl, sym, ap, ◌∙◌, subst, ℕ, Bool, true, false, not, ◌&&◌, List, [], ◌∷◌, length, inl, inr, arith, get_or}
use Rattle.std.specs.Prelude.{eqb, map}
use Rattle.std.specs.List.{list_any, zip}
use Rattle.std.proofs.lemmas.Bool.{false≢true, or_cases, and_parts, and_from, eqb-true, eq-eqb}
use Rattle.std.proofs.lemmas.Slice.Zip.{length-zip}
use Rattle.std.proofs.lemmas.List.{get_or-map, length-map}
use Rattle.grid_lemmas.proofs.Bools.{or_left, or_right, same_test}
use Rattle.grid_graph.specs.Joined.{joined}
use Rattle.grid_graph.specs.Graph.{labels_of}
use Rattle.grid_graph.proofs.RenamedNodes.{EndsIn}
use Rattle.grid_graph.proofs.Reach.{In, In_here, In_there, In_right, any_from, any_of}
use Rattle.grid_level.specs.declared.Switch.{Switch}
use Rattle.grid_level.specs.declared.Placed.{Placed}
use Rattle.grid_level.specs.VoltageLevel.{VoltageLevel}
use Rattle.grid_level.specs.Passing.{Rule, bus, core, named, nodes, passing, positioned, joined_under, is_connected, carries_busbar, is_busbar, is_operable, stands_at}
use Rattle.grid_level.specs.Kept.{KeepsLimits}
use Rattle.grid_groups.specs.Labels.{index_in, graph_under, label_of, labels_where, passing_where}
use Rattle.grid_groups.proofs.Lists.{In_filtered}
use Rattle.grid_groups.proofs.Indices.{at_index, index_below}
use Rattle.grid_groups.proofs.Bridge.{labels_long, same_label}
use Rattle.grid_groups.proofs.PassingEdges.{nodes-positioned, passing_core, passing_ends}
use Rattle.grid_groups.proofs.Under.{Stands, labels-where, among as labelled_among}
use Rattle.grid_paths.specs.Paths.{has_node}
use Rattle.grid_connect.proofs.ConnectPlans.{In_rising}
use Rattle.grid_connect.specs.Plans.{core_of}
use Rattle.grid_connect.specs.Indexed.{marks_where, core_flags, is_marked}

-- ---- the marks

pub labels_full : (level : VoltageLevel) (passes : List Bool) (labels : List ℕ) → KeepsLimits level → labels ≡ labels_where level passes → length labels ≡ length (nodes level)
unfolding labels_where
labels_full level passes labels keeps e = labels_long (nodes level) (passing_where level passes) keeps.nodes_rise (passing_ends level passes keeps.ends_are_nodes) labels e

pub marks_long : (level : VoltageLevel) (passes : List Bool) (a : ℕ) → KeepsLimits level → length (marks_where level passes a) ≡ length (nodes level)
unfolding marks_where
marks_long level passes a keeps =
    length-map (labels_where level passes) (λ label. eqb label (label_of (nodes level) (labels_where level passes) a))
    ∙ labels_full level passes (labels_where level passes) keeps refl

pub core_long : (switches : List Switch) (states : List Bool) → length states ≡ length switches → length (core_flags switches states) ≡ length switches
core_long switches states e =
    let a = length-map (zip switches states) (λ (pair : Switch × Bool). not pair.1 && not (is_operable pair.0)) in
    omega (arith, a, length-zip switches states, e)

-- two nodes have one label where they are joined
pub one_label : (rule : Rule) (level stands : VoltageLevel) (labels : List ℕ) (a u : ℕ) → KeepsLimits level → Stands rule level stands → labels ≡ labels_of (graph_under rule stands) → In a (nodes level) → In u (nodes level)
    → eqb (label_of (nodes level) labels u) (label_of (nodes level) labels a) ≡ joined_under rule stands a u
unfolding label_of joined_under
one_label rule level stands labels a u keeps s e i j =
    let ns = nodes level in
    let ps = passing rule stands in
    let k = index_in ns u in
    same_label ns ps keeps.nodes_rise s.ends_in labels (labelled_among rule level stands labels keeps s e) (index_in ns a) k (index_below a ns i) (index_below u ns j)
    ∙ ap (λ z. joined ns ps z (get_or ns k 0)) (at_index a ns i)
    ∙ ap (joined ns ps a) (at_index u ns j)
    ∙ ap (λ z. joined z ps a u) (sym s.same_nodes)

core_stands : (level : VoltageLevel) (flags : List Bool) → KeepsLimits level → length flags ≡ length level.switches → Stands core level (positioned level flags)
unfolding positioned
core_stands level flags keeps e =
    let P : List (ℕ × ℕ) → Type 0 = λ z. EndsIn (nodes level) z in
    record {
      same_nodes = nodes-positioned level flags;
      same_placed = refl;
      ends_in = subst P (sym (passing_core level flags e)) (passing_ends level (core_flags level.switches flags) keeps.ends_are_nodes);
    }

-- a node is marked where it is in the core
pub core_mark : (level : VoltageLevel) (flags : List Bool) (a u : ℕ) → KeepsLimits level → length flags ≡ length level.switches → In a (nodes level) → In u (nodes level)
    → is_marked (nodes level) (marks_where level (core_flags level.switches flags) a) u ≡ has_node (core_of (positioned level flags) a) u
unfolding marks_where label_of core_of has_node
core_mark level flags a u keeps e i j =
    let now = positioned level flags in
    let passes = core_flags level.switches flags in
    let labels = labels_where level passes in
    let k = index_in (nodes level) u in
    let below = index_below u (nodes level) j in
    let long = labels_full level passes labels keeps refl in
    let P : List ℕ → Type 0 = λ z. In u z in
    get_or-map (λ label. eqb label (label_of (nodes level) labels a)) labels k 0 false (omega (arith, below, long))
    ∙ one_label core level now labels a u keeps (core_stands level flags keeps e) (labels-where core level now passes labels (nodes-positioned level flags) (passing_core level flags e) refl) i j
    ∙ sym (In_filtered (joined_under core now a) u (nodes now) (subst P (sym (nodes-positioned level flags)) j))

-- ---- connected where a busbar section is marked

carried : (j : ℕ → Bool) (b : ℕ) (all : List Placed) → j b ≡ true → list_any (λ p. eqb p.node b && is_busbar p.stand) all ≡ true → list_any (λ p. j p.node && is_busbar p.stand) all ≡ true
carried j b [] e h = h
carried j b (p ∷ all) e h = elim (or_cases (eqb p.node b && is_busbar p.stand) (list_any (λ p. eqb p.node b && is_busbar p.stand) all) h) [
  | inl g ↦ (
      let parts = and_parts (eqb p.node b) (is_busbar p.stand) g in
      or_left (j p.node && is_busbar p.stand) (list_any (λ p. j p.node && is_busbar p.stand) all) (and_from (j p.node) (is_busbar p.stand) (ap j (eqb-true p.node b parts.0) ∙ e) parts.1)
      )
  | inr g ↦ or_right (j p.node && is_busbar p.stand) (list_any (λ p. j p.node && is_busbar p.stand) all) (carried j b all e g)
]

record Carrier (j : ℕ → Bool) (all : List Placed) : Type 0 where
  node : ℕ
  stands : In node (map (λ p. p.node) all)
  passes : j node ≡ true
  carries : list_any (λ p. eqb p.node node && is_busbar p.stand) all ≡ true

carrier : (j : ℕ → Bool) (all : List Placed) → list_any (λ p. j p.node && is_busbar p.stand) all ≡ true → Carrier j all
carrier j [] h = absurd (false≢true h)
carrier j (p ∷ all) h = elim (or_cases (j p.node && is_busbar p.stand) (list_any (λ p. j p.node && is_busbar p.stand) all) h) [
  | inl g ↦ (
      let parts = and_parts (j p.node) (is_busbar p.stand) g in
      record {
        node = p.node;
        stands = In_here p.node (map (λ p. p.node) all);
        passes = parts.0;
        carries = or_left (eqb p.node p.node && is_busbar p.stand) (list_any (λ q. eqb q.node p.node && is_busbar q.stand) all) (and_from (eqb p.node p.node) (is_busbar p.stand) (eq-eqb p.node p.node refl) parts.1);
      }
      )
  | inr g ↦ (
      let r = carrier j all g in
      record {
        node = r.node;
        stands = In_there r.node p.node (map (λ p. p.node) all) r.stands;
        passes = r.passes;
        carries = or_right (eqb p.node r.node && is_busbar p.stand) (list_any (λ q. eqb q.node r.node && is_busbar q.stand) all) r.carries;
      }
      )
]

placed_In : (level : VoltageLevel) (n : ℕ) → In n (map (λ p. p.node) level.placed) → In n (nodes level)
unfolding nodes named
placed_In level n i = In_rising n _ (In_right n _ (map (λ p. p.node) level.placed) i)

-- connected: some busbar section stands at a joined node
pub connected_any : (level : VoltageLevel) (a : ℕ) → is_connected level a ≡ list_any (λ p. joined_under bus level a p.node && is_busbar p.stand) level.placed
unfolding is_connected carries_busbar stands_at
connected_any level a =
    let j = joined_under bus level a in
    same_test (list_any (λ b. list_any (λ p. eqb p.node b && is_busbar p.stand) level.placed && j b) (nodes level)) (list_any (λ p. j p.node && is_busbar p.stand) level.placed)
    (λ h.
    let r = any_from (λ b. list_any (λ p. eqb p.node b && is_busbar p.stand) level.placed && j b) (nodes level) h in
    let parts = and_parts (list_any (λ p. eqb p.node r.0 && is_busbar p.stand) level.placed) (j r.0) r.2 in
    carried j r.0 level.placed parts.1 parts.0)
    (λ h.
    let r = carrier j level.placed h in
    any_of (λ b. list_any (λ p. eqb p.node b && is_busbar p.stand) level.placed && j b) (nodes level) r.node (placed_In level r.node r.stands)
    (and_from (list_any (λ p. eqb p.node r.node && is_busbar p.stand) level.placed) (j r.node) r.carries r.passes))
