use Rattle.std.proofs.Common.{◌≡◌, sym, ap, ◌∙◌, subst, ℕ, map, length}
use Rattle.std.specs.Prelude.{flat_map}
use Rattle.grid_graph.specs.Graph.{graph}
use Rattle.grid_graph.proofs.Labels.{labels_long}
use Rattle.grid_queue.specs.Parents.{AreLabelsOf}
use Rattle.grid_structure.specs.Sites.{levels}
use Rattle.grid_islands.specs.declared.numbering.Counts.{Counts}
use Rattle.grid_islands.specs.Numbering.{counts_before}
use Rattle.grid_islands.specs.Spots.{buses_of_spots, pairs_of_buses}
use Rattle.grid_islands.proofs.KeptLevels.{counts_stay}
use Rattle.grid_islands.proofs.SpotNumbers.{numbers_fit, ends_counted_so, moved_at}
use Rattle.grid_islands.proofs.kept.KeptBuses.follow_numbers.Goals as goal
use Rattle.grid_islands.proofs.kept.KeptBuses.follow_numbers.Goals.{After-slice}

-- the counts are as they were
stay : (c : After-slice) → c.into_parts-counts.result.0 ≡ counts_before c.args.states.now.opened (levels c.args.structure.now) (length (levels c.args.structure.now))
stay c = c.into_parts-counts.ensures.counts ∙ counts_stay c.args.structure.now c.args.place c.args.numbers c.args.self.now c.args.states.now.opened c.requires.numbers c.requires.every

firsts : (c : After-slice) → c.slice.result.now ≡ c.args.numbers.counts.firsts
firsts c = c.slice.ensures ∙ ap (λ (z : Counts). z.firsts) c.into_parts-counts.ensures.counts

-- each bus has a label
long : (c : After-slice) → length c.into_vec.result.items ≡ c.args.numbers.counts.count
long c =
    let is = c.requires.numbers.were.labelled in
    ap length (c.into_vec.ensures ∙ c.into_parts-counts.ensures.labels) ∙ labels_long (graph c.args.numbers.counts.count (flat_map pairs_of_buses c.args.numbers.ends)) c.args.numbers.labels is.least

labelled : (c : After-slice) → AreLabelsOf (graph (length c.into_vec.result.items) (flat_map pairs_of_buses c.into_parts-counts.result.1)) c.into_vec.result.items
labelled c = rw (long c, c.into_parts-counts.ensures.ends, c.into_vec.ensures ∙ c.into_parts-counts.ensures.labels) c.requires.numbers.were.labelled

pub follow-requires-clause-fit : goal.follow-requires-clause-fit
unfolding counts_before
follow-requires-clause-fit c =
    let net = c.args.structure.now in
    let opened = c.args.states.now.opened in
    numbers_fit net opened c.args.self.now c.requires.every c.slice.result.now (c.slice.ensures ∙ ap (λ (z : Counts). z.firsts) (stay (goal.at.follow-requires-clause-fit c).After-slice)) c.into_parts-counts.result.0.count (ap (λ (z : Counts). z.count) (stay (goal.at.follow-requires-clause-fit c).After-slice))
    (rw (ap (λ (z : Counts). z.count) c.into_parts-counts.ensures.counts) c.requires.numbers.were.numbered.few)

pub follow-requires-clause-spots : goal.follow-requires-clause-spots
follow-requires-clause-spots c = c.requires.spots.index

pub follow-requires-clause-inside : goal.follow-requires-clause-inside
follow-requires-clause-inside c = rw c.requires.spots.long c.requires.inside

pub follow-requires-clause-few : goal.follow-requires-clause-few
follow-requires-clause-few c = rw (long (goal.at.follow-requires-clause-few c).After-slice) c.requires.numbers.were.numbered.few

pub follow-requires-clause-before : goal.follow-requires-clause-before
follow-requires-clause-before c = (
  c.requires.numbers.before.levels,
  moved_at c.args.structure.now c.args.place c.args.numbers c.args.self.now c.args.states.now.opened c.slice.result.now (length c.into_vec.result.items) c.into_parts-counts.result.1 c.requires.numbers c.requires.every c.requires.spots (firsts (goal.at.follow-requires-clause-before c).After-slice) c.into_parts-counts.ensures.ends (long (goal.at.follow-requires-clause-before c).After-slice),
)

pub follow-requires-clause-labels : goal.follow-requires-clause-labels
follow-requires-clause-labels c = labelled (goal.at.follow-requires-clause-labels c).After-slice

pub make-requires-clause-few : goal.make-requires-clause-few
make-requires-clause-few c = rw (ap (λ (z : Counts). z.count) c.into_parts-counts.ensures.counts) c.requires.numbers.were.numbered.few

pub make-requires-clause-labels : goal.make-requires-clause-labels
make-requires-clause-labels c =
    let P : ℕ → Type 0 = λ n. AreLabelsOf (graph n (flat_map pairs_of_buses c.follow.new.ends)) c.in_ok-labels.labels.items in
    subst P (long (goal.at.make-requires-clause-labels c).After-slice ∙ sym (ap (λ (z : Counts). z.count) c.into_parts-counts.ensures.counts)) c.in_ok-labels.ensures.labels

pub returns-clause-kept : goal.returns-clause-kept
returns-clause-kept c =
    let net = c.args.structure.now in
    let opened = c.args.states.now.opened in
    let kept = c.args.self.now in
    let P : ℕ → Type 0 = λ n. AreLabelsOf (graph n (flat_map pairs_of_buses c.follow.new.ends)) c.in_ok-labels.labels.items in
    record {
      made = c.requires.kept.made;
      spotted = c.requires.kept.spotted;
      numbered = record {
        opened = opened;
        rows = c.requires.rows;
        every = c.requires.every;
        numbered = c.in_ok-make.ensures.made net opened (ends_counted_so net opened kept c.into_parts-counts.result.0 c.follow.new.ends c.slice.result.now c.requires.every c.requires.spots.branches (stay (goal.at.returns-clause-kept c).After-slice) c.slice.ensures c.in_ok-labels.ensures.ends);
        ended = c.in_ok-make.ensures.ends ∙ c.in_ok-labels.ensures.ends ∙ ap (λ z. map (buses_of_spots z kept.levels) kept.spots.branches) (c.slice.ensures ∙ ap (λ (z : Counts). z.firsts) (sym c.in_ok-make.ensures.counts))
            ∙ ap (map (buses_of_spots c.in_ok-make.field-0.counts.firsts kept.levels)) c.requires.spots.branches;
        labelled = rw (c.in_ok-make.ensures.counts, c.in_ok-make.ensures.ends, c.in_ok-make.ensures.labels) (subst P (long (goal.at.returns-clause-kept c).After-slice ∙ sym (ap (λ (z : Counts). z.count) c.into_parts-counts.ensures.counts)) c.in_ok-labels.ensures.labels);
      };
    }
