use Rattle.std.proofs.Common.{◌≡◌, refl, sym, ap, ◌∙◌, ◌<◌, length, get_or, set, length-set, arith}
use Rattle.std.proofs.Math.ListN.{get_or-replicate, length-replicate}
use Rattle.grid_graph.specs.Components.{places}
use Rattle.grid_level.specs.Passing.{is_busbar, is_branch_end}
use Rattle.grid_groups.specs.Labels.{items_at, places_with, labels_placed}
use Rattle.grid_groups.proofs.Steps.{read_item}
use Rattle.grid_groups.proofs.TerminalNodes.{few_placed}
use Rattle.grid_busview.specs.Views.{is_feeder}
use Rattle.grid_busview.specs.Labelled.{counted, count_of, nothing, count_with}
use Rattle.grid_busview.proofs.LabelTallies.{keyed, few_under, counted_more}
use Rattle.grid_busview.proofs.PlacedIndices.{node_among, node_from, index_inside, key_is, index_next, keys_long}
use Rattle.grid_busview.proofs.counts.count_labels.Goals as goal
use Rattle.grid_busview.proofs.counts.count_labels.Goals.{After-placed-item, After-index_from-index}

pub loop-placed-init : goal.loop-placed-init
unfolding count_of items_at places
loop-placed-init c =
    let all = c.in-Ok.ensures.items_if_clones_equal (λ y h. h) in
    record {
      long = ap length all ∙ length-replicate (length c.args.labels.now) nothing;
      next = λ d lt. omega arith;
      each = λ label lt. ap (λ z. get_or z label nothing) all ∙ get_or-replicate (length c.args.labels.now) label nothing nothing lt;
    }

-- the terminal at its place
inside : (c : After-placed-item) → c.loop-placed.placed-index < length c.args.level.now.placed
inside c = omega (arith, c.loop-placed-test.true, ap length c.placed-placed-items.ensures)

item : (c : After-placed-item) → c.placed-item.result ≡ get_or c.args.level.now.placed c.loop-placed.placed-index c.placed-item.result
item c = c.placed-item.is ∙ ap (λ z. get_or z c.loop-placed.placed-index c.placed-item.result) c.placed-placed-items.ensures

pub index_from-index-requires-clause-node : goal.index_from-index-requires-clause-node
index_from-index-requires-clause-node c =
    let a = (goal.at.index_from-index-requires-clause-node c).After-placed-item in
    node_among c.args.level.now c.keeps.ensures c.loop-placed.placed-index c.placed-item.result (inside a) (item a)

pub index_from-index-requires-clause-start : goal.index_from-index-requires-clause-start
index_from-index-requires-clause-start c =
    let a = (goal.at.index_from-index-requires-clause-start c).After-placed-item in
    node_from c.args.level.now c.keeps.ensures c.loop-placed.placed-index c.placed-item.result (inside a) (item a) c.loop-placed.index (c.loop-placed.invariant.next c.placed-item.result (inside a))

-- the index that was found is one of the labels
found : (c : After-index_from-index) → c.index_from-index.result < length c.args.labels.now
found c =
    let a = (goal.at.After-index_from-index c).After-placed-item in
    index_inside c.args.level.now c.keeps.ensures c.loop-placed.placed-index c.placed-item.result (inside a) (item a) c.args.labels.now c.index_from-index.result c.index_from-index.ensures c.requires.long

pub bounds-labels-index : goal.bounds-labels-index
bounds-labels-index c = found (goal.at.bounds-labels-index c).After-index_from-index

pub count_under-requires-clause-busbars : goal.count_under-requires-clause-busbars
unfolding count_of
count_under-requires-clause-busbars c =
    let label = get_or c.args.labels.now c.index_from-index.result 0 in
    let below = c.requires.below c.index_from-index.result (found (goal.at.count_under-requires-clause-busbars c).After-index_from-index) in
    omega (
      arith,
      ap (λ z. z.busbars) (c.loop-placed.invariant.each label below),
      few_under (λ p. is_busbar p.stand) c.args.level.now.placed (labels_placed c.args.level.now c.args.labels.now) label c.loop-placed.placed-index,
      inside (goal.at.count_under-requires-clause-busbars c).After-placed-item,
      few_placed c.args.level.now c.keeps.ensures,
    )

pub count_under-requires-clause-branch_ends : goal.count_under-requires-clause-branch_ends
unfolding count_of
count_under-requires-clause-branch_ends c =
    let label = get_or c.args.labels.now c.index_from-index.result 0 in
    let below = c.requires.below c.index_from-index.result (found (goal.at.count_under-requires-clause-branch_ends c).After-index_from-index) in
    omega (
      arith,
      ap (λ z. z.branch_ends) (c.loop-placed.invariant.each label below),
      few_under (λ p. is_branch_end p.stand) c.args.level.now.placed (labels_placed c.args.level.now c.args.labels.now) label c.loop-placed.placed-index,
      inside (goal.at.count_under-requires-clause-branch_ends c).After-placed-item,
      few_placed c.args.level.now c.keeps.ensures,
    )

pub count_under-requires-clause-feeders : goal.count_under-requires-clause-feeders
unfolding count_of
count_under-requires-clause-feeders c =
    let label = get_or c.args.labels.now c.index_from-index.result 0 in
    let below = c.requires.below c.index_from-index.result (found (goal.at.count_under-requires-clause-feeders c).After-index_from-index) in
    omega (
      arith,
      ap (λ z. z.feeders) (c.loop-placed.invariant.each label below),
      few_under (λ p. is_feeder p.stand) c.args.level.now.placed (labels_placed c.args.level.now c.args.labels.now) label c.loop-placed.placed-index,
      inside (goal.at.count_under-requires-clause-feeders c).After-placed-item,
      few_placed c.args.level.now c.keeps.ensures,
    )

pub loop-placed-preserved : goal.loop-placed-preserved
loop-placed-preserved c =
    let level = c.args.level.now in
    let labels = c.args.labels.now in
    let keys = labels_placed level labels in
    let i = c.loop-placed.placed-index in
    let p = c.placed-item.result in
    let counts = c.loop-placed.counts.items in
    let lt = inside (goal.at.loop-placed-preserved c).After-placed-item in
    let here = item (goal.at.loop-placed-preserved c).After-placed-item in
    let index = c.index_from-index.result in
    let is : get_or keys i 0 ≡ get_or labels index 0 = key_is level c.keeps.ensures i p lt here labels index c.index_from-index.ensures in
    let below : get_or labels index 0 < length labels = c.requires.below index (found (goal.at.loop-placed-preserved c).After-index_from-index) in
    let key_below : get_or keys i 0 < length labels = omega (arith, is, below) in
    record {
      long = ap length c.count_under.ensures ∙ length-set counts (get_or labels index 0) _ ∙ c.loop-placed.invariant.long;
      next = index_next level c.keeps.ensures i p lt here labels index c.index_from-index.ensures;
      each = λ label less.
          ap (λ z. get_or z label nothing) c.count_under.ensures
          ∙ ap (λ z. get_or (set counts z (counted (get_or counts z nothing) p.stand)) label nothing) (sym is)
          ∙ counted_more level.placed keys i p counts label (read_item level.placed level.placed i p refl lt here) (omega (arith, key_below, c.loop-placed.invariant.long)) (c.loop-placed.invariant.each (get_or keys i 0) key_below)
          (c.loop-placed.invariant.each label less);
    }

pub returns-clause-each : goal.returns-clause-each
unfolding count_with places_with
returns-clause-each c =
    let level = c.args.level.now in
    let labels = c.args.labels.now in
    let over : c.loop-placed.placed-index ≡ length (labels_placed level labels) = omega (arith, c.loop-placed-test.false, c.loop-placed.auto.placed-index-end, ap length c.placed-placed-items.ensures, keys_long level labels) in
    λ label lt. c.loop-placed.invariant.each label lt ∙ ap (λ n. count_of (items_at level.placed (keyed (labels_placed level labels) label n))) over
