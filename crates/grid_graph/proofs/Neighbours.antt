-- Neighbours over more edges.
use Rattle.std.proofs.Common.{List, subst, sym, ℕ, ◌++◌}
use Rattle.std.proofs.lemmas.List.Concat.{flat_map-append}
use Rattle.std.specs.List.{flat_map}
use Rattle.grid_graph.proofs.Reach.{In, In_left}
use Rattle.grid_graph.specs.Joined.{end_across, neighbours}

pub near_first : (first second : List (ℕ × ℕ)) (a c : ℕ) → In c (neighbours first a) → In c (neighbours (first ++ second) a)
unfolding neighbours
near_first first second a c i =
    let P : List ℕ → Type 0 = λ z. In c z in
    subst P (sym (flat_map-append (end_across a) first second)) (In_left c (flat_map (end_across a) first) (flat_map (end_across a) second) i)
