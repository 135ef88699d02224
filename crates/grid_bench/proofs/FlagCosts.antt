-- What a change of a switch's flags costs, over the nets that are kept.
use Rattle.std.proofs.Common.{◌≡◌, refl, sym, ap, ◌∙◌, ℕ, ◌+◌, Bool, List, set, Some}
use Rattle.std.proofs.lemmas.List.{length-set}
use Rattle.std.specs.Prelude.{slice_get}
use Rattle.grid_graph.specs.Graph.{Graph}
use Rattle.grid_graph.proofs.Reach.{In}
use Rattle.grid_level.specs.declared.Switch.{Switch}
use Rattle.grid_level.specs.VoltageLevel.{VoltageLevel}
use Rattle.grid_level.specs.Passing.{Rule, bus, breaker, nodes, stood}
use Rattle.grid_level.specs.Kept.{KeepsLimits}
use Rattle.grid_groups.specs.Labels.{index_in, graph_under}
use Rattle.grid_groups.proofs.Indices.{among_In}
use Rattle.grid_groups.proofs.Steps.{switch_at}
use Rattle.grid_groups.proofs.Under.{Stands, breaker_stands}
use Rattle.grid_queue.specs.Net.{NetShape, passing_graph}
use Rattle.grid_busbreaker.specs.Labelled.{passing_flags}
use Rattle.grid_groups.specs.Nets.{net_where, closed_flags}
use Rattle.grid_bench.specs.Nets.{AreEnds}
use Rattle.grid_bench.specs.Contents.{content, Fits}
use Rattle.grid_bench.specs.Costs.{count_touched, touched_by, touched_both, with_flags_at, change_cost}
use Rattle.grid_bench.proofs.NetFlags.{bus_graph, breaker_graph, got_here}
use Rattle.grid_bench.proofs.TouchedNodes.{bus_stood, touched_nodes}

-- both ends of a switch are nodes
ends_in : (level : VoltageLevel) (place : ℕ) (s : Switch) → KeepsLimits level → slice_get level.switches place ≡ Some s → In s.node1 (nodes level) × In s.node2 (nodes level)
ends_in level place s keeps at =
    let here = got_here level.switches place s at in
    let both = switch_at level level.switches place s keeps.ends_are_nodes refl here.0 here.1 in
    (among_In s.node1 (nodes level) both.0, among_In s.node2 (nodes level) both.1)

touched_as : (rule : Rule) (level was will : VoltageLevel) (before now : Graph) (s : Switch) (a b : ℕ) → KeepsLimits level → Stands rule level was → Stands rule level will
    → In s.node1 (nodes level) × In s.node2 (nodes level) → before ≡ graph_under rule was → now ≡ graph_under rule will → a ≡ index_in (nodes level) s.node1 → b ≡ index_in (nodes level) s.node2
    → count_touched before now a b ≡ touched_by rule was will s
touched_as rule level was will before now s a b keeps stands then within h i e f =
    ap (λ z. count_touched z now a b) h
    ∙ ap (λ z. count_touched (graph_under rule was) z a b) i
    ∙ ap (λ z. count_touched (graph_under rule was) (graph_under rule will) z b) e
    ∙ ap (count_touched (graph_under rule was) (graph_under rule will) (index_in (nodes level) s.node1)) f
    ∙ touched_nodes rule level keeps was will s stands then within.0 within.1

pub fits_set : (level : VoltageLevel) (opened retained : List Bool) (place : ℕ) (o r : Bool) → Fits (content level opened retained) → Fits (content level (set opened place o) (set retained place r))
fits_set level opened retained place o r fits = record { opened = length-set opened place o ∙ fits.opened; retained = length-set retained place r ∙ fits.retained }

pub cost_as : (level : VoltageLevel) (opened retained : List Bool) (place a b : ℕ) (o r : Bool) (old_bus new_bus old_breaker new_breaker : NetShape)
    → KeepsLimits level → Fits (content level opened retained) → AreEnds level place a b
    → old_bus ≡ net_where level (closed_flags opened) → new_bus ≡ net_where level (closed_flags (set opened place o))
    → old_breaker ≡ net_where level (passing_flags opened retained) → new_breaker ≡ net_where level (passing_flags (set opened place o) (set retained place r))
    → count_touched (passing_graph old_bus) (passing_graph new_bus) a b + count_touched (passing_graph old_breaker) (passing_graph new_breaker) a b ≡ change_cost (content level opened retained) place o r
unfolding touched_both
cost_as level opened retained place a b o r old_bus new_bus old_breaker new_breaker keeps fits ends h i j k =
    let was = content level opened retained in
    let will = with_flags_at was place o r in
    let then_fits = fits_set level opened retained place o r fits in
    let before = stood level opened retained in
    let after = stood level (set opened place o) (set retained place r) in
    let within = ends_in level place ends.0 keeps ends.1 in
    let first = touched_as bus level before after (passing_graph old_bus) (passing_graph new_bus) ends.0 a b keeps
    (bus_stood level opened retained keeps fits.opened) (bus_stood level (set opened place o) (set retained place r) keeps then_fits.opened) within
    (ap passing_graph h ∙ bus_graph level opened retained fits.opened) (ap passing_graph i ∙ bus_graph level (set opened place o) (set retained place r) then_fits.opened) ends.2 ends.3 in
    let second = touched_as breaker level before after (passing_graph old_breaker) (passing_graph new_breaker) ends.0 a b keeps
    (breaker_stands level opened retained keeps fits.opened fits.retained) (breaker_stands level (set opened place o) (set retained place r) keeps then_fits.opened then_fits.retained) within
    (ap passing_graph j ∙ breaker_graph level opened retained fits.opened fits.retained) (ap passing_graph k ∙ breaker_graph level (set opened place o) (set retained place r) then_fits.opened then_fits.retained) ends.2 ends.3 in
    ap (λ z. z + count_touched (passing_graph old_breaker) (passing_graph new_breaker) a b) first
    ∙ ap (λ z. touched_by bus before after ends.0 + z) second
    ∙ ap (touched_both was will) (sym ends.1)
