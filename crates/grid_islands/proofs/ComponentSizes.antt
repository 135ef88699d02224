-- How many buses have a component's number is how many buses the component has.
use Rattle.std.proofs.Common.{◌≡◌, refl, sym, ap, ◌∙◌, ℕ, ◌<◌, List, length, map, arith}
use Rattle.std.specs.Prelude.{eqb, count_by}
use Rattle.std.proofs.lemmas.Bool.{eqb-true, eq-eqb}
use Rattle.std.proofs.lemmas.List.Sums.{length-filter}
use Rattle.grid_lemmas.proofs.Bools.{same_test}
use Rattle.grid_graph.specs.Joined.{joined, group_of}
use Rattle.grid_graph.specs.Components.{places, component_of, component_number, component_numbers}
use Rattle.grid_graph.specs.Graph.{Graph, joined_in, least_joined}
use Rattle.grid_graph.proofs.Counts.{at_place, long_places}
use Rattle.grid_graph.proofs.Least.{least_below, least_same, joined_from_least}
use Rattle.grid_graph.proofs.Places.{AreBelow, places_In}
use Rattle.grid_components.specs.Ranks.{is_key, rank_in}
use Rattle.grid_components.proofs.ComponentRanks.{rank_is}
use Rattle.grid_components.proofs.Sizes.{counts_map, size_of}
use Rattle.grid_components.proofs.Tallies.{counts_same}
use Rattle.grid_islands.proofs.PlaceRanks.{rank_below, ranks_apart}

module _ (net : Graph) (fit : AreBelow net.nodes net.pairs) where
  sizes : List ℕ
  sizes = map (size_of net) (places net.nodes)

  sizes_long : length sizes ≡ net.nodes
  unfolding sizes
  sizes_long = long_places net.nodes (size_of net) (map (size_of net) (places net.nodes)) refl

  ranked : (v : ℕ) → v < net.nodes → rank_in sizes (least_joined net v) ≡ component_number net.nodes net.pairs v
  unfolding sizes
  ranked v lt = rank_is net (map (size_of net) (places net.nodes)) v fit lt sizes_long (λ x less. at_place net.nodes (size_of net) (map (size_of net) (places net.nodes)) x refl less)

  pub number_below : (v : ℕ) → v < net.nodes → component_number net.nodes net.pairs v < net.nodes
  number_below v lt = omega (arith, ranked v lt, sizes_long, rank_below sizes (least_joined net v) (omega (arith, least_below net v fit lt, sizes_long)))

  pub same_number : (v u : ℕ) → v < net.nodes → u < net.nodes → eqb (component_number net.nodes net.pairs u) (component_number net.nodes net.pairs v) ≡ joined_in net v u
  same_number v u lt less = same_test _ _
      (λ h. joined_from_least net v u fit lt less
      (ranks_apart sizes (least_joined net v) (least_joined net u) (omega (arith, least_below net v fit lt, sizes_long)) (omega (arith, least_below net u fit less, sizes_long))
      (ranked v lt ∙ sym (eqb-true (component_number net.nodes net.pairs u) (component_number net.nodes net.pairs v) h) ∙ sym (ranked u less))))
      (λ h. eq-eqb (component_number net.nodes net.pairs u) (component_number net.nodes net.pairs v) (sym (ranked u less) ∙ ap (rank_in sizes) (sym (least_same net v u fit lt h)) ∙ ranked v lt))

  pub size_as : (v : ℕ) → v < net.nodes → count_by (is_key (component_number net.nodes net.pairs v)) (component_numbers net.nodes net.pairs) ≡ length (component_of net.nodes net.pairs v)
  unfolding component_numbers component_of group_of joined_in
  size_as v lt =
      counts_map (is_key (component_number net.nodes net.pairs v)) (component_number net.nodes net.pairs) (places net.nodes)
      ∙ counts_same (λ u. is_key (component_number net.nodes net.pairs v) (component_number net.nodes net.pairs u)) (joined (places net.nodes) net.pairs v) (places net.nodes) (λ u i. same_number v u lt (places_In u net.nodes i))
      ∙ sym (length-filter (joined (places net.nodes) net.pairs v) (places net.nodes))
