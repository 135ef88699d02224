use Rattle.std.proofs.Common.{◌≡◌, sym, subst, ap, ◌∙◌, ◌<◌, length, get_or, arith}
use Rattle.std.specs.Prelude.{flat_map, count_by}
use Rattle.grid_components.specs.Ranks.{is_key, ranks_at}
use Rattle.grid_graph.specs.Graph.{graph}
use Rattle.grid_graph.proofs.Below.{pairs_below}
use Rattle.grid_graph.proofs.Labels.{labels_long, label_below}
use Rattle.grid_queue.specs.Parents.{AreLabelsOf}
use Rattle.grid_graph.specs.Components.{component_numbers}
use Rattle.grid_islands.specs.declared.numbering.Counts.{Counts}
use Rattle.grid_structure.specs.Sites.{levels}
use Rattle.grid_islands.specs.Numbering.{buses_before, counts_before}
use Rattle.grid_islands.specs.Spots.{pairs_of_buses}
use Rattle.grid_islands.proofs.components.Numbers.make.Goals as goal

pub rank_labels-requires-clause-few : goal.rank_labels-requires-clause-few
rank_labels-requires-clause-few c =
    let joined = graph c.args.counts.count (flat_map pairs_of_buses c.args.ends) in
    omega (arith, labels_long joined c.args.labels.items c.requires.labels.least, c.requires.few, ap length c.deref.ensures.value)

pub rank_labels-requires-clause-labels : goal.rank_labels-requires-clause-labels
rank_labels-requires-clause-labels c =
    let joined = graph c.args.counts.count (flat_map pairs_of_buses c.args.ends) in
    (joined, subst (AreLabelsOf joined) (sym c.deref.ensures.value) c.requires.labels)

pub returns-clause-made : goal.returns-clause-made
unfolding counts_before
returns-clause-made c = λ net opened is.
    let pairs = flat_map pairs_of_buses c.args.ends in
    let joined = graph c.args.counts.count pairs in
    let ranks = c.in_ok-ranks.field-0.ranks in
    let same : c.from_vec.result ≡ c.deref.result.now = c.from_vec.ensures ∙ sym c.deref.ensures.value in
    record {
      counts = is.counted;
      few = c.requires.few;
      components = ap (ranks_at ranks) same ∙ c.in_ok-ranks.ensures.numbers joined (subst (AreLabelsOf joined) (sym c.deref.ensures.value) c.requires.labels) ∙ ap (λ (z : Counts). component_numbers z.count pairs) is.counted
          ∙ ap (component_numbers (buses_before opened (levels net) (length (levels net)))) is.paired;
      ranked = λ k lt. (let is = c.requires.labels in
          let labels = c.args.labels.items in
          let inside : k < length labels = omega (arith, lt, ap length c.from_vec.ensures) in
          omega (
            arith,
            label_below joined labels k (pairs_below joined.nodes joined.pairs is.ends) is.least inside,
            labels_long joined labels is.least,
            ap (λ z. get_or z k 0) c.from_vec.ensures,
            c.in_ok-ranks.ensures.long,
            ap length c.deref.ensures.value,
          ));
      below = λ k lt. omega (arith, c.in_ok-ranks.ensures.below k (omega (arith, lt, ap length same)), ap (λ z. get_or (ranks_at ranks z) k 0) same);
      sizes = λ s lt. c.in_ok-ranks.ensures.sizes s lt ∙ ap (λ z. count_by (is_key s) (ranks_at ranks z)) (sym same);
    }
