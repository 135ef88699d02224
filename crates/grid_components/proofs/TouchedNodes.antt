-- Graphs that differ at some nodes: what is joined to none of these has the same least node.
use Rattle.std.proofs.Common.{◌≡◌, sym, ℕ, ◌<◌, Bool, true, false, ◌&&◌, List, length, get_or}
use Rattle.std.proofs.lemmas.Bool.{and_parts, and_from}
use Rattle.grid_graph.specs.Graph.{Graph, joined_in, least_joined, labels_of}
use Rattle.grid_graph.specs.Joined.{neighbours}
use Rattle.grid_graph.proofs.Below.{pairs_below}
use Rattle.grid_graph.proofs.Counts.{by_places}
use Rattle.grid_graph.proofs.Least.{least_is_least, least_is, n_refl, n_below}
use Rattle.grid_graph.proofs.Places.{AreBelow, j_along, j_step}
use Rattle.grid_graph.proofs.Reach.{In}
use Rattle.grid_components.specs.Changes.{IsOtherAt}

-- what is joined to a node by the one graph is by the other, where it is next to the same nodes there as long as it is joined by both
module _ (one other : Graph) (a : ℕ) (same : other.nodes ≡ one.nodes) (fit : AreBelow one.nodes one.pairs) (far : AreBelow other.nodes other.pairs) (lt : a < one.nodes) where
  over : ((x c : ℕ) → joined_in one a x ≡ true → joined_in other a x ≡ true → In c (neighbours one.pairs x) → In c (neighbours other.pairs x))
      → (b : ℕ) → joined_in one a b ≡ true → joined_in other a b ≡ true
  unfolding joined_in
  over next b h =
      (and_parts (joined_in one a b) (joined_in other a b)
      (j_along one.nodes one.pairs fit (λ x. joined_in one a x && joined_in other a x)
      (λ x c both i.
      (let is = and_parts (joined_in one a x) (joined_in other a x) both in
      and_from (joined_in one a c) (joined_in other a c) (j_step one.nodes one.pairs fit a x c lt (n_below one a x fit lt is.0) is.0 i)
      (j_step other.nodes other.pairs far a x c (rw same lt) (n_below other a x far (rw same lt) is.1) is.1 (next x c is.0 is.1 i))))
      a b (and_from (joined_in one a a) (joined_in other a a) (n_refl one a fit) (n_refl other a far)) h)).1

pub labels_by : (net : Graph) (labels : List ℕ) → length labels ≡ net.nodes → ((x : ℕ) → x < net.nodes → get_or labels x 0 ≡ least_joined net x) → labels ≡ labels_of net
unfolding labels_of
labels_by net labels long each = by_places net.nodes (least_joined net) labels long each

module _ (old new : Graph) where
  -- what no touched node is joined to has the same least node as before
  pub same_least : (touched : ℕ → Bool) (a : ℕ) → IsOtherAt old new touched → a < old.nodes → ((x : ℕ) → x < old.nodes → joined_in new a x ≡ true → touched x ≡ false)
      → least_joined old a ≡ least_joined new a
  same_least touched a is lt far =
      let fit = pairs_below old.nodes old.pairs is.old_ends in
      let new_fit = pairs_below new.nodes new.pairs is.new_ends in
      let inside : a < new.nodes = rw is.nodes lt in
      let fore : (b : ℕ) → joined_in new a b ≡ true → joined_in old a b ≡ true =
      over new old a (sym is.nodes) new_fit fit inside (λ x c j k i. is.was x c (far x (n_below old a x fit lt k) j) i) in
      let back : (b : ℕ) → joined_in old a b ≡ true → joined_in new a b ≡ true =
      over old new a is.nodes fit new_fit lt (λ x c j k i. is.stays x c (far x (n_below old a x fit lt j) k) i) in
      let least = least_is_least new a new_fit inside in
      least_is old a (least_joined new a) fit lt (record { reached = fore (least_joined new a) least.reached; least = λ x k. least.least x (back x k) })
