-- A graph of which some pairs went and others came.
use Rattle.std.specs.Prelude.{◌≡◌, ℕ, Bool, true, false}
use Rattle.grid_graph.specs.Graph.{Graph, EndsBelow}
use Rattle.grid_graph.specs.Joined.{neighbours}
use Rattle.grid_queue.specs.Work.{is_in}

-- the same nodes, and what is next to a node is the same but at those that are touched
pub record IsOtherAt (old new : Graph) (touched : ℕ → Bool) : Type 0 where
  pub nodes : new.nodes ≡ old.nodes
  pub old_ends : EndsBelow old.pairs old.nodes
  pub new_ends : EndsBelow new.pairs new.nodes
  pub stays : (x c : ℕ) → touched x ≡ false → is_in (neighbours old.pairs x) c ≡ true → is_in (neighbours new.pairs x) c ≡ true
  pub was : (x c : ℕ) → touched x ≡ false → is_in (neighbours new.pairs x) c ≡ true → is_in (neighbours old.pairs x) c ≡ true
