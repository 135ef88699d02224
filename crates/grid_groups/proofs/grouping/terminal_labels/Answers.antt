use Rattle.std.proofs.Common.{◌≡◌, sym, ap, ap₂, ◌∙◌, [], ◌∷◌, ◌++◌, ◌<◌, ◌≤◌, ℕ, List, length, get_or, true, arith, subst}
use Rattle.std.specs.Prelude.{map}
use Rattle.std.specs.List.{list_all}
use Rattle.std.proofs.lemmas.List.{take_all}
use Rattle.grid_level.specs.declared.Placed.{Placed}
use Rattle.grid_level.specs.Passing.{nodes}
use Rattle.grid_level.specs.Kept.{among}
use Rattle.grid_groups.specs.Labels.{label_of, labels_placed}
use Rattle.grid_groups.proofs.Indices.{among_In, index_below}
use Rattle.grid_groups.proofs.TerminalNodes.{labels_below, few_labels}
use Rattle.grid_groups.proofs.Steps.{all_at, map_next}
use Rattle.grid_groups.proofs.grouping.terminal_labels.Goals as goal

pub bounds-labels-index_of : goal.bounds-labels-index_of
bounds-labels-index_of c =
    let ns = nodes c.args.level.now in
    let test : Placed → _ = λ p. among ns p.node in
    let P : List Placed → Type 0 = λ z. list_all test z ≡ true in
    let kept = subst P (sym c.placed-placed-items.ensures) c.keeps.ensures.placed_are_nodes in
    let here = all_at test c.placed-placed-items.result.now c.loop-placed.placed-index c.placed-item.result kept c.loop-placed-test.true c.placed-item.is in
    let low = index_below c.placed-item.result.node ns (among_In c.placed-item.result.node ns here) in
    omega (arith, low, c.index_of.ensures, c.requires.long)

pub loop-placed-preserved : goal.loop-placed-preserved
unfolding label_of
loop-placed-preserved c =
    let label : Placed → _ = λ p. label_of (nodes c.args.level.now) c.args.labels.now p.node in
    record {
      labels = c.push_reserved.ensures.items
          ∙ ap₂ (λ zs z. zs ++ z ∷ []) c.loop-placed.invariant.labels (ap (λ k. get_or c.args.labels.now k 0) c.index_of.ensures)
          ∙ map_next label c.placed-placed-items.result.now c.loop-placed.placed-index c.placed-item.result c.loop-placed-test.true c.placed-item.is;
      len = omega (arith, c.push_reserved.ensures.len, c.loop-placed.invariant.len);
      room = omega (arith, c.push_reserved.ensures.capacity, c.loop-placed.invariant.room);
    }

labelled : goal.returns-clause-each
unfolding labels_placed
labelled c =
    c.from_vec.ensures ∙ c.loop-placed.invariant.labels ∙ ap (map (λ p. label_of (nodes c.args.level.now) c.args.labels.now p.node)) (take_all c.loop-placed.placed-index c.placed-placed-items.result.now c.loop-placed-test.false ∙ c.placed-placed-items.ensures)

pub returns-clause-each : goal.returns-clause-each
returns-clause-each c = labelled c

pub returns-clause-below : goal.returns-clause-below
returns-clause-below c =
    let P : List ℕ → Type 0 = λ z. (k : ℕ) → k < length z → get_or z k 0 < length (nodes c.args.level.now) in
    subst P (sym (labelled c)) (labels_below c.args.level.now c.args.labels.now c.keeps.ensures c.requires.long c.requires.below)

pub returns-clause-few : goal.returns-clause-few
returns-clause-few c =
    let P : List ℕ → Type 0 = λ z. length z ≤ 1024 in
    subst P (sym (labelled c)) (few_labels c.args.level.now c.args.labels.now c.keeps.ensures)
