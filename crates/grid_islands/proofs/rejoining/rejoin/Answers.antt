use Rattle.std.proofs.Common.{◌≡◌, sym, ◌∙◌, subst, ℕ, Bool, List, length}
use Rattle.std.specs.Prelude.{flat_map}
use Rattle.grid_graph.specs.Graph.{Graph, graph}
use Rattle.grid_graph.specs.Joined.{neighbours}
use Rattle.grid_graph.proofs.Reach.{In}
use Rattle.grid_queue.specs.Parents.{AreLabelsOf, AreParents}
use Rattle.grid_islands.specs.declared.spots.BranchBuses.{BranchBuses}
use Rattle.grid_islands.specs.Spots.{pairs_of_buses, with_pairs}
use Rattle.grid_islands.specs.Rejoining.{has_mark, is_marked, marked_pairs, unmarked_pairs}
use Rattle.grid_islands.proofs.MarkedComponents.{one_mark, apart_parents, marked_as, rejoined}
use Rattle.grid_islands.proofs.rejoining.rejoin.Goals as goal
use Rattle.grid_islands.proofs.rejoining.rejoin.Goals.{After-set_apart}

abbrev joined_before : List BranchBuses → ℕ → Graph
joined_before before count = graph count (flat_map pairs_of_buses before)

-- the marks as they are then are alike where buses are joined
alike : (c : After-set_apart) (before : List BranchBuses) → AreLabelsOf (joined_before before (length c.args.labels.items)) c.args.labels.items → (x d : ℕ) → In d (neighbours (flat_map pairs_of_buses before) x)
    → has_mark c.set_apart.new.marks.items x ≡ has_mark c.set_apart.new.marks.items d
alike c before is x d i =
    c.set_apart.ensures.marks x ∙ one_mark (joined_before before (length c.args.labels.items)) c.args.labels.items c.args.marks.items is x d i ∙ sym (c.set_apart.ensures.marks d)

-- what the labels point to then
parents : (c : After-set_apart) (before : List BranchBuses) → AreLabelsOf (joined_before before (length c.args.labels.items)) c.args.labels.items
    → AreParents (graph (length c.args.labels.items) (flat_map (unmarked_pairs (has_mark c.set_apart.new.marks.items)) before)) c.set_apart.new.labels.items
parents c before is =
    apart_parents (has_mark c.set_apart.new.marks.items) before (length c.args.labels.items) is.ends (alike c before is) c.args.labels.items c.set_apart.new.labels.items is c.set_apart.ensures.apart

pub set_apart-requires-clause-labels : goal.set_apart-requires-clause-labels
set_apart-requires-clause-labels c = (joined_before c.requires.labels.0 (length c.args.labels.items), c.requires.labels.1)

pub join_marked-requires-clause-parents : goal.join_marked-requires-clause-parents
join_marked-requires-clause-parents c =
    let before = c.requires.labels.0 in (
      graph (length c.args.labels.items) (flat_map (unmarked_pairs (has_mark c.set_apart.new.marks.items)) before),
      parents (goal.at.join_marked-requires-clause-parents c).After-set_apart before c.requires.labels.1,
    )

pub returns : goal.returns
returns c before is others =
    let n = length c.args.labels.items in
    let m : ℕ → Bool = has_mark c.set_apart.new.marks.items in
    let branches = c.args.branches.now in
    let net = graph n (flat_map (unmarked_pairs m) before) in
    let P : List Bool → Type 0 = λ z. AreLabelsOf (with_pairs net (flat_map (marked_pairs (has_mark z)) branches)) c.join_marked.result.items in
    rejoined m before branches n c.requires.ends (alike (goal.at.returns c).After-set_apart before is)
    (marked_as (is_marked c.args.labels.items c.args.marks.items) m before branches c.set_apart.ensures.marks others) c.join_marked.result.items
    (subst P c.deref.ensures.value (c.join_marked.ensures net (parents (goal.at.returns c).After-set_apart before is)))
