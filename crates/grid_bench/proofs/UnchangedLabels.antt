-- Labels stay where an edge opens or closes whose ends are joined without it, and the bus view stays with them.
use Rattle.std.proofs.Common.{◌≡◌, ◌<◌, refl, sym, ap, ◌∙◌, subst, ℕ, ℤ, Bool, true, false, if◌then◌else◌, List, Option, Some, None, IsTrue, All, length, get_or}
use Rattle.std.specs.Prelude.{slice_get}
use Rattle.grid_graph.specs.Graph.{labels_of}
use Rattle.grid_queue.specs.Net.{NetShape, EndsFit, with_passing, passing_graph}
use Rattle.grid_labels.specs.Labels.{edge_between, IsBetween}
use Rattle.grid_labels.proofs.OneMore.{at_get, net_opened, net_closed, closed_same}
use Rattle.grid_level.specs.VoltageLevel.{VoltageLevel}
use Rattle.grid_level.specs.Passing.{bus, positioned}
use Rattle.grid_level.specs.Kept.{KeepsLimits}
use Rattle.grid_groups.specs.Labels.{graph_under, labels_where}
use Rattle.grid_groups.specs.Nets.{net_where, closed_flags}
use Rattle.grid_groups.proofs.NetEdges.{net_labels}
use Rattle.grid_groups.proofs.Under.{bus_labels}
use Rattle.grid_busview.specs.declared.ViewBus.{ViewBus}
use Rattle.grid_busview.specs.declared.BusView.{BusView}
use Rattle.grid_busview.specs.Views.{bus_view_of}
use Rattle.grid_busview.proofs.LabelViews.{buses_as}
use Rattle.grid_bench.specs.declared.shown.Shown.{Shown}
use Rattle.grid_bench.specs.Contents.{content, IsShownOf}
use Rattle.grid_bench.proofs.EqualViews.{shown_none}

-- the ends of an edge are nodes
pub ends_below : (net : NetShape) (k a b : ℕ) (s : Bool) → All (EndsFit net.nodes) net.edges → slice_get net.edges k ≡ Some (edge_between a b s) → (a < net.nodes) × (b < net.nodes)
ends_below net k a b s fit h =
    let ends = at_get (EndsFit net.nodes) net.edges k (edge_between a b s) h fit in
    (ends.0, ends.1)

pub labels_closed : (net : NetShape) (k a b : ℕ) (labels : List ℕ) → All (EndsFit net.nodes) net.edges → IsBetween net.edges k a b false → labels ≡ labels_of (passing_graph net) → get_or labels a 0 ≡ get_or labels b 0
    → labels_of (passing_graph (with_passing net k true)) ≡ labels_of (passing_graph net)
labels_closed net k a b labels fit between is same =
    sym (closed_same (passing_graph net) (passing_graph (with_passing net k true)) a b labels (net_opened net k a b fit between) is same) ∙ is

pub labels_opened : (net : NetShape) (k a b : ℕ) (labels : List ℕ) → All (EndsFit net.nodes) net.edges → IsBetween net.edges k a b true → labels ≡ labels_of (passing_graph (with_passing net k false)) → get_or labels a 0 ≡ get_or labels b 0
    → labels_of (passing_graph (with_passing net k false)) ≡ labels_of (passing_graph net)
labels_opened net k a b labels fit between is same =
    sym is ∙ closed_same (passing_graph (with_passing net k false)) (passing_graph net) a b labels (net_closed net k a b fit between) is same

-- the view goes by the labels
view_stays : (level : VoltageLevel) (opened other : List Bool) (watts : List ℤ) → KeepsLimits level → length opened ≡ length level.switches → length other ≡ length level.switches → length watts ≡ length level.placed
    → labels_of (passing_graph (net_where level (closed_flags other))) ≡ labels_of (passing_graph (net_where level (closed_flags opened)))
    → bus_view_of (positioned level opened) watts ≡ bus_view_of (positioned level other) watts
unfolding bus_view_of positioned
view_stays level opened other watts keeps e f w same =
    let labels = labels_where level (closed_flags opened) in
    let first : labels ≡ labels_of (graph_under bus (positioned level opened)) = bus_labels level opened labels e refl in
    let second : labels ≡ labels_of (graph_under bus (positioned level other)) =
    bus_labels level other labels f (sym (net_labels level (closed_flags opened)) ∙ sym same ∙ net_labels level (closed_flags other)) in
    let made : List ViewBus → BusView = λ buses. record { level = level.id; buses = buses } in
    ap made (sym (buses_as level opened watts labels keeps e w first) ∙ buses_as level other watts labels keeps f w second)

module _ (level : VoltageLevel) (opened retained other others : List Bool) (keeps : KeepsLimits level) (e : length opened ≡ length level.switches) (f : length other ≡ length level.switches) where
  stays : (shown : Option Shown) → labels_of (passing_graph (net_where level (closed_flags other))) ≡ labels_of (passing_graph (net_where level (closed_flags opened)))
      → IsShownOf (content level opened retained) shown → IsShownOf (content level other others) shown
  stays None same is = tt
  stays (Some s) same is = record { long = is.long; made = is.made ∙ view_stays level opened other s.powers keeps e f is.long same }

  -- what is shown, where it stays only where the labels do
  pub shown_after : (old new : Option Shown) (stay : Bool) → (IsTrue stay → labels_of (passing_graph (net_where level (closed_flags other))) ≡ labels_of (passing_graph (net_where level (closed_flags opened))))
      → new ≡ (if stay then old else None) → IsShownOf (content level opened retained) old → IsShownOf (content level other others) new
  shown_after old new true same h is =
      let P : Option Shown → Type 0 = λ z. IsShownOf (content level other others) z in
      subst P (sym h) (stays old (same refl) is)
  shown_after old new false same h is = shown_none (content level other others) new h
