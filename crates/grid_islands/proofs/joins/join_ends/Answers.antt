use Rattle.std.proofs.Common.{sym, ap, ◌∙◌, subst, ℕ, List, take, get_or}
use Rattle.std.proofs.lemmas.List.{take_all}
use Rattle.std.specs.Prelude.{flat_map, None}
use Rattle.grid_graph.specs.Graph.{graph, EndsBelow}
use Rattle.grid_queue.specs.Parents.{AreLabelsOf}
use Rattle.grid_islands.specs.declared.spots.BranchBuses.{BranchBuses}
use Rattle.grid_islands.specs.Spots.{pairs_of_buses}
use Rattle.grid_islands.proofs.PairEnds.{ends_of, items_more}
use Rattle.grid_islands.proofs.joins.join_ends.Goals as goal

abbrev no_buses : BranchBuses
no_buses = record { first = None; second = None; third = None }

pub join_branch-requires : goal.join_branch-requires
join_branch-requires c =
    let branches = c.args.branches.now in
    let k = c.loop-branch.branch-index in
    let P : ℕ → Type 0 = λ n. EndsBelow (pairs_of_buses (get_or branches k no_buses)) n in
    subst P (sym c.loop-branch.invariant.long) (ends_of pairs_of_buses branches k c.args.count no_buses c.loop-branch-test.true c.requires)

pub loop-branch-preserved : goal.loop-branch-preserved
loop-branch-preserved c =
    let branches = c.args.branches.now in
    let k = c.loop-branch.branch-index in
    let P : List (ℕ × ℕ) → Type 0 = λ ps. AreLabelsOf (graph c.args.count ps) c.join_branch.new.joiner in
    record {
      long = c.join_branch.ensures.long ∙ c.loop-branch.invariant.long;
      labels = subst P (sym (items_more pairs_of_buses branches k no_buses c.loop-branch-test.true))
          (c.join_branch.ensures.labels (graph c.args.count (flat_map pairs_of_buses (take k branches))) c.loop-branch.invariant.labels);
    }

pub returns : goal.returns
returns c =
    let branches = c.args.branches.now in
    let whole = ap (flat_map pairs_of_buses) (take_all c.loop-branch.branch-index branches c.loop-branch-test.false) in
    let P : List (ℕ × ℕ) → Type 0 = λ ps. AreLabelsOf (graph c.args.count ps) c.loop-branch.joiner in
    let Q : List ℕ → Type 0 = λ labels. AreLabelsOf (graph c.args.count (flat_map pairs_of_buses branches)) labels in
    subst Q (sym c.into_labels.ensures) (subst P whole c.loop-branch.invariant.labels)
