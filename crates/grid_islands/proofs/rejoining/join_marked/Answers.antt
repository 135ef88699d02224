use Rattle.std.proofs.Common.{◌≡◌, refl, sym, ap, ◌∙◌, subst, ℕ, Bool, true, false, List, [], ◌++◌, length, take, get_or, append_assoc}
use Rattle.std.proofs.lemmas.List.{take_all, append-nil}
use Rattle.std.specs.Prelude.{flat_map, None}
use Rattle.grid_graph.specs.Graph.{graph, EndsBelow}
use Rattle.grid_queue.specs.Parents.{AreLabelsOf}
use Rattle.grid_islands.specs.declared.spots.BranchBuses.{BranchBuses}
use Rattle.grid_islands.specs.Spots.{pairs_of_buses, with_pairs}
use Rattle.grid_islands.specs.Rejoining.{has_mark, either_marked, marked_pairs}
use Rattle.grid_islands.proofs.PairEnds.{ends_of, items_more}
use Rattle.grid_islands.proofs.rejoining.join_marked.Goals as goal
use Rattle.grid_islands.proofs.rejoining.join_marked.Goals.{then-stands_marked, else-stands_marked}

abbrev no_buses : BranchBuses
no_buses = record { first = None; second = None; third = None }

with_mark : (m : ℕ → Bool) (b : BranchBuses) → either_marked m b.first b.second ≡ true → marked_pairs m b ≡ pairs_of_buses b
unfolding marked_pairs
with_mark m b e = rw e refl

without_mark : (m : ℕ → Bool) (b : BranchBuses) → either_marked m b.first b.second ≡ false → marked_pairs m b ≡ []
unfolding marked_pairs
without_mark m b e = rw e refl

pub loop-branch-init : goal.loop-branch-init
loop-branch-init c = record {
  long = c.of_parents-joiner.ensures.long;
  labels = λ net is. (let P : List (ℕ × ℕ) → Type 0 = λ ps. AreLabelsOf (graph net.nodes ps) c.of_parents-joiner.result in subst P (sym (append-nil net.pairs)) (c.of_parents-joiner.ensures.labels net is));
}

pub stands_marked-requires : goal.stands_marked-requires
stands_marked-requires c =
    let branches = c.args.branches.now in
    let k = c.loop-branch.branch-index in
    let P : ℕ → Type 0 = λ n. EndsBelow (pairs_of_buses (get_or branches k no_buses)) n in
    subst P (sym c.requires.long) (ends_of pairs_of_buses branches k (length c.args.labels.items) no_buses c.loop-branch-test.true c.requires.ends)

pub join_branch-requires : goal.join_branch-requires
join_branch-requires c =
    let branches = c.args.branches.now in
    let k = c.loop-branch.branch-index in
    let P : ℕ → Type 0 = λ n. EndsBelow (pairs_of_buses (get_or branches k no_buses)) n in
    subst P (sym c.loop-branch.invariant.long) (ends_of pairs_of_buses branches k (length c.args.labels.items) no_buses c.loop-branch-test.true c.requires.ends)

pub loop-branch-preserved : goal.loop-branch-preserved
loop-branch-preserved c =
    let branches = c.args.branches.now in
    let k = c.loop-branch.branch-index in
    let m : ℕ → Bool = has_mark c.args.marks.now in
    let b = get_or branches k no_buses in
    let more = items_more (marked_pairs m) branches k no_buses c.loop-branch-test.true in
    let so_far = flat_map (marked_pairs m) (take k branches) in
    elim c.if-stands_marked.branch [
      | then-stands_marked w ↦
          rw w.joiner-is (record {
            long = w.join_branch.ensures.long ∙ c.loop-branch.invariant.long;
            labels = λ net is. (let P : List (ℕ × ℕ) → Type 0 = λ ps. AreLabelsOf (graph net.nodes ps) w.join_branch.new.joiner in
                subst P (append_assoc net.pairs so_far (pairs_of_buses b) ∙ ap (λ z. net.pairs ++ z) (ap (λ z. so_far ++ z) (sym (with_mark m b (sym c.stands_marked.ensures ∙ w.if-stands_marked.true))) ∙ sym more))
                (w.join_branch.ensures.labels (with_pairs net so_far) (c.loop-branch.invariant.labels net is)));
          })
      | else-stands_marked w ↦
          rw w.joiner-is (record {
            long = c.loop-branch.invariant.long;
            labels = λ net is. (let P : List (ℕ × ℕ) → Type 0 = λ ps. AreLabelsOf (graph net.nodes (net.pairs ++ ps)) c.loop-branch.joiner in
                subst P (sym (append-nil so_far) ∙ ap (λ z. so_far ++ z) (sym (without_mark m b (sym c.stands_marked.ensures ∙ w.if-stands_marked.false))) ∙ sym more) (c.loop-branch.invariant.labels net is));
          })
    ]

pub returns : goal.returns
returns c net is =
    let branches = c.args.branches.now in
    let m : ℕ → Bool = has_mark c.args.marks.now in
    let whole = ap (flat_map (marked_pairs m)) (take_all c.loop-branch.branch-index branches c.loop-branch-test.false) in
    let P : List (ℕ × ℕ) → Type 0 = λ ps. AreLabelsOf (with_pairs net ps) c.loop-branch.joiner in
    let Q : List ℕ → Type 0 = λ labels. AreLabelsOf (with_pairs net (flat_map (marked_pairs m) branches)) labels in
    subst Q (sym c.into_labels.ensures) (subst P whole (c.loop-branch.invariant.labels net is))
