-- What pairs with ends below a count join is below it.
use Rattle.std.proofs.Common.{ℕ, ◌<◌, suc, List, [], ◌∷◌, length, get_or, inl, inr, arith}
use Rattle.std.specs.List.{flat_map}
use Rattle.std.proofs.lemmas.Bool.{false≢true}
use Rattle.grid_graph.specs.Joined.{end_across, neighbours}
use Rattle.grid_graph.specs.Graph.{EndsBelow}
use Rattle.grid_graph.proofs.Reach.{In, In_parts, across_from}
use Rattle.grid_graph.proofs.Places.{AreBelow}

neighbour_below : (pairs : List (ℕ × ℕ)) (count a c : ℕ) → ((k : ℕ) → (d : ℕ × ℕ) → k < length pairs → ((get_or pairs k d).0 < count) × ((get_or pairs k d).1 < count)) → In c (neighbours pairs a) → c < count
unfolding neighbours
neighbour_below [] count a c ends i = absurd (false≢true i)
neighbour_below (p ∷ ps) count a c ends i = elim (In_parts c (end_across a p) (flat_map (end_across a) ps) i) [
  | inl h ↦ (let here = ends 0 p (omega arith) in elim (across_from a c p h) [ inl g ↦ omega (arith, g.1, here.1) | inr g ↦ omega (arith, g.1, here.0) ])
  | inr h ↦ neighbour_below ps count a c (λ k d lt. ends (suc k) d (omega arith)) h
]

pub pairs_below : (count : ℕ) (pairs : List (ℕ × ℕ)) → EndsBelow pairs count → AreBelow count pairs
pairs_below count pairs ends = record { across = λ a c i. neighbour_below pairs count a c ends i }
