use Rattle.std.proofs.Common.{sym, ap, ◌∙◌, subst, List, length, map}
use Rattle.std.specs.Prelude.{flat_map}
use Rattle.grid_graph.specs.Graph.{graph}
use Rattle.grid_queue.specs.Parents.{AreLabelsOf}
use Rattle.grid_structure.specs.Sites.{levels}
use Rattle.grid_islands.specs.declared.spots.BranchBuses.{BranchBuses}
use Rattle.grid_islands.specs.declared.numbering.Counts.{Counts}
use Rattle.grid_islands.specs.Numbering.{counts_before, IsCounted}
use Rattle.grid_islands.specs.Spots.{buses_of_spots, pairs_of_buses}
use Rattle.grid_islands.proofs.LevelComponents.{ends_counted}
use Rattle.grid_islands.proofs.KeptLevels.{still_kept}
use Rattle.grid_islands.proofs.SpotNumbers.{numbers_fit, ends_counted_so}
use Rattle.grid_islands.proofs.kept.KeptBuses.find_numbers.Goals as goal
use Rattle.grid_islands.proofs.kept.KeptBuses.find_numbers.Goals.{After-slice-2}

pub count-requires : goal.count-requires
count-requires c = still_kept c.args.structure.now c.args.states.now.opened (length (levels c.args.structure.now)) c.args.self.now c.find_spots.new.self c.in_ok-find_spots.ensures.levels c.requires.every

pub ends-requires : goal.ends-requires
unfolding counts_before
ends-requires c =
    let net = c.args.structure.now in
    let opened = c.args.states.now.opened in
    let every = still_kept net opened (length (levels net)) c.args.self.now c.find_spots.new.self c.in_ok-find_spots.ensures.levels c.requires.every in
    numbers_fit net opened c.find_spots.new.self every c.slice.result.now (c.slice.ensures ∙ ap (λ z. z.firsts) c.in_ok-counts.ensures.value) c.in_ok-counts.counts.count (ap (λ z. z.count) c.in_ok-counts.ensures.value) c.in_ok-counts.ensures.few

-- the ends are counted
ended : (c : After-slice-2) → IsCounted c.args.structure.now c.args.states.now.opened c.in_ok-counts.counts (flat_map pairs_of_buses c.in_ok-ends.ends)
ended c =
    let net = c.args.structure.now in
    let opened = c.args.states.now.opened in
    let every = still_kept net opened (length (levels net)) c.args.self.now c.find_spots.new.self c.in_ok-find_spots.ensures.levels c.requires.every in
    ends_counted_so net opened c.find_spots.new.self c.in_ok-counts.counts c.in_ok-ends.ends c.slice.result.now every c.in_ok-find_spots.ensures.found.branches c.in_ok-counts.ensures.value c.slice.ensures c.in_ok-ends.ensures

pub join_ends-requires : goal.join_ends-requires
join_ends-requires c =
    rw c.slice-2.ensures (ends_counted c.args.structure.now c.args.states.now.opened c.args.states.now.opened c.in_ok-counts.counts (flat_map pairs_of_buses c.in_ok-ends.ends) (ended (goal.at.join_ends-requires c).After-slice-2))

pub make-requires-clause-labels : goal.make-requires-clause-labels
make-requires-clause-labels c =
    let P : List BranchBuses → Type 0 = λ z. AreLabelsOf (graph c.in_ok-counts.counts.count (flat_map pairs_of_buses z)) c.in_ok-labels.labels.items in
    subst P c.slice-2.ensures c.in_ok-labels.ensures

pub returns-clause-kept : goal.returns-clause-kept
returns-clause-kept c =
    let net = c.args.structure.now in
    let opened = c.args.states.now.opened in
    let kept = c.find_spots.new.self in
    let every = still_kept net opened (length (levels net)) c.args.self.now kept c.in_ok-find_spots.ensures.levels c.requires.every in
    let P : List BranchBuses → Type 0 = λ z. AreLabelsOf (graph c.in_ok-counts.counts.count (flat_map pairs_of_buses z)) c.in_ok-labels.labels.items in
    record {
      made = c.find_spots.ensures.kept.made;
      spotted = c.find_spots.ensures.kept.spotted;
      numbered = record {
        opened = opened;
        rows = c.requires.rows;
        every = every;
        numbered = c.in_ok-make.ensures.made net opened (ended (goal.at.returns-clause-kept c).After-slice-2);
        ended = c.in_ok-make.ensures.ends ∙ c.in_ok-ends.ensures ∙ ap (λ z. map (buses_of_spots z kept.levels) kept.spots.branches) (c.slice.ensures ∙ ap (λ (z : Counts). z.firsts) (sym c.in_ok-make.ensures.counts))
            ∙ ap (map (buses_of_spots c.in_ok-make.field-0.counts.firsts kept.levels)) c.in_ok-find_spots.ensures.found.branches;
        labelled = rw (c.in_ok-make.ensures.counts, c.in_ok-make.ensures.ends, c.in_ok-make.ensures.labels) (subst P c.slice-2.ensures c.in_ok-labels.ensures);
      };
    }
