-- The view by labels is the view of the level as it stands.
use Rattle.std.proofs.Common.{◌≡◌, refl, sym, ap, ◌∙◌, ℕ, ℤ, Bool, List, [], ◌∷◌, length, get_or, arith}
use Rattle.std.specs.Prelude.{eqb, map, filter, zip}
use Rattle.std.specs.List.{list_any}
use Rattle.grid_graph.specs.Joined.{least_nodes, group_of}
use Rattle.grid_graph.specs.Graph.{labels_of}
use Rattle.grid_level.specs.declared.Placed.{Placed}
use Rattle.grid_level.specs.VoltageLevel.{VoltageLevel}
use Rattle.grid_level.specs.Passing.{nodes, bus, passing, positioned, stood, placed_among}
use Rattle.grid_level.specs.Kept.{KeepsLimits}
use Rattle.grid_groups.specs.Groups.{group_under, leaders, terminals_at}
use Rattle.grid_groups.specs.Labels.{graph_under, items_at, places_with, labels_placed, group_of as group_made, group_at, groups_by}
use Rattle.grid_groups.proofs.PassingEdges.{nodes-positioned, nodes-stood, passing_bus-stood}
use Rattle.grid_groups.proofs.Under.{Stands, bus_stands, nodes_as, fed_as, passed_as}
use Rattle.grid_busview.specs.declared.ViewBus.{ViewBus}
use Rattle.grid_busview.specs.declared.BusView.{BusView}
use Rattle.grid_busview.specs.Views.{Fed, fed_among, is_load, is_generation, watts_over, is_valid, is_bus, bus_of, bus_view_of}
use Rattle.grid_busview.specs.Labelled.{fed_at, is_bus_by, bus_by}

fed_nodes : (ps : List Placed) (watts : List ℤ) → length watts ≡ length ps → map (λ pair. pair.0.node) (zip ps watts) ≡ map (λ p. p.node) ps
fed_nodes [] watts e = refl
fed_nodes (p ∷ ps) [] e = absurd (omega (arith, e))
fed_nodes (p ∷ ps) (w ∷ watts) e = ap (λ z. p.node ∷ z) (fed_nodes ps watts (omega (arith, e)))

module _ (level : VoltageLevel) (opened : List Bool) (watts : List ℤ) (labels : List ℕ) (keeps : KeepsLimits level) (e : length opened ≡ length level.switches) (w : length watts ≡ length level.placed)
    (labelled : labels ≡ labels_of (graph_under bus (positioned level opened))) where
  stands : Stands bus level (positioned level opened)
  stands = bus_stands level opened keeps e

  pub buses_as : map (bus_by level watts) (filter (is_bus_by level) (groups_by level labels)) ≡ map (bus_of (positioned level opened) watts) (filter (is_bus (positioned level opened)) (leaders bus (positioned level opened)))
  unfolding bus_by is_bus_by bus_of is_bus fed_at fed_among group_at group_made terminals_at placed_among positioned
  buses_as =
      let here = positioned level opened in
      passed_as bus level here labels keeps stands labelled (bus_by level watts) (bus_of here watts) (is_bus_by level) (is_bus here)
      (λ l lt leads.
      let least = get_or (nodes level) l 0 in
      let group = group_under bus here least in
      let placed = fed_as bus level here labels keeps stands labelled l lt leads (λ p. p.node) level.placed refl in
      let fed = fed_as bus level here labels keeps stands labelled l lt leads (λ pair. pair.0.node) (zip level.placed watts) (fed_nodes level.placed watts w) in
      let made : List ℕ → List Placed → List Fed → ViewBus = λ ns ps fs. record {
        least = least;
        nodes = ns;
        terminals = map (λ p. p.terminal) ps;
        load = watts_over is_load fs;
        generation = watts_over is_generation fs;
      } in
      let ks = places_with (labels_placed level labels) l in (
        ap is_valid placed,
        ap (λ z. made z (items_at level.placed ks) (items_at (zip level.placed watts) ks)) (nodes_as bus level here labels keeps stands labelled l lt leads)
            ∙ ap (λ z. made group z (items_at (zip level.placed watts) ks)) placed ∙ ap (λ z. made group (filter (λ p. list_any (eqb p.node) group) level.placed) z) fed,
      ))

-- ---- the flags retained

abbrev made_bus : VoltageLevel → List ℤ → ℕ → List ℕ → ViewBus
made_bus level watts least ns = record {
  least = least;
  nodes = ns;
  terminals = map (λ p. p.terminal) (filter (λ p. list_any (eqb p.node) ns) level.placed);
  load = watts_over is_load (filter (λ pair. list_any (eqb pair.0.node) ns) (zip level.placed watts));
  generation = watts_over is_generation (filter (λ pair. list_any (eqb pair.0.node) ns) (zip level.placed watts));
}

-- the view by its nodes and the pairs that pass
abbrev by_pairs : VoltageLevel → List ℤ → List ℕ → List (ℕ × ℕ) → BusView
by_pairs level watts ns pairs = record {
  level = level.id;
  buses = map (λ least. made_bus level watts least (group_of ns pairs least)) (filter (λ least. is_valid (filter (λ p. list_any (eqb p.node) (group_of ns pairs least)) level.placed)) (least_nodes ns pairs));
}

pub retained_ignored : (level : VoltageLevel) (opened retained : List Bool) (watts : List ℤ) → bus_view_of (stood level opened retained) watts ≡ bus_view_of (positioned level opened) watts
unfolding bus_view_of bus_of is_bus fed_among group_under leaders terminals_at placed_among stood positioned
retained_ignored level opened retained watts =
    ap (λ z. by_pairs level watts z (passing bus (stood level opened retained))) (nodes-stood level opened retained ∙ sym (nodes-positioned level opened))
    ∙ ap (λ z. by_pairs level watts (nodes (positioned level opened)) z) (passing_bus-stood level opened retained)
