use Rattle.std.proofs.Common.{◌≡◌, refl, sym, ap, ◌∙◌, subst, ◌+◌, ◌<◌, List, [], ℕ, length, get_or, arith}
use Rattle.grid_graph.specs.Components.{places}
use Rattle.grid_groups.specs.declared.grouping.Group.{Group}
use Rattle.grid_groups.specs.Labels.{leading, group_of, places_with}
use Rattle.grid_groups.proofs.GroupMembers.{AreGroups, nodes_to, with_key, groups_of_map, map_of_groups, same_groups, number_at, node_put, node_skipped, all_with_key}
use Rattle.grid_groups.proofs.grouping.put_nodes.Goals as goal
use Rattle.grid_groups.proofs.grouping.put_nodes.Goals.{then-labels-label+in_ok-push_node, else-labels-label}

pub loop-index-init : goal.loop-index-init
unfolding places with_key
loop-index-init c = groups_of_map (nodes_to c.args.level.now c.args.labels.now 0) (leading c.args.labels.now) c.args.groups.now.items c.requires.groups

pub push_node-requires : goal.push_node-requires
push_node-requires c =
    let labels : List ℕ = c.args.labels.now in
    let i : ℕ = c.loop-index.index in
    let inside : i < length labels = omega (arith, c.loop-index-test.true, c.node_count-index-end.ensures, c.requires.long) in
    omega (arith, (number_at labels c.args.numbers.now c.requires.numbers (get_or labels i 0) (c.requires.below i inside) c.if-labels-label.true).0, c.loop-index.invariant.long)

pub loop-index-preserved : goal.loop-index-preserved
loop-index-preserved c =
    let level = c.args.level.now in
    let labels : List ℕ = c.args.labels.now in
    let numbers : List ℕ = c.args.numbers.now in
    let i : ℕ = c.loop-index.index in
    let label : ℕ = get_or labels i 0 in
    let inside : i < length labels = omega (arith, c.loop-index-test.true, c.node_count-index-end.ensures, c.requires.long) in
    let P : List Group → Type 0 = λ z. AreGroups (nodes_to level labels (i + 1)) (leading labels) z in
    elim c.if-labels-label.branch [
      | then-labels-label+in_ok-push_node w ↦
          subst P (sym (ap (λ z. z.items) w.groups-is ∙ w.in_ok-push_node.ensures))
          (node_put labels numbers c.requires.numbers level c.loop-index.groups.items i label (get_or numbers label 0) w.node_at.result c.loop-index.invariant refl (c.requires.below i inside) w.if-labels-label.true refl w.node_at.ensures)
      | else-labels-label w ↦
          subst P (sym (ap (λ z. z.items) w.groups-is)) (node_skipped labels numbers c.requires.numbers level c.loop-index.groups.items i label c.loop-index.invariant refl w.if-labels-label.false)
    ]

pub returns : goal.returns
returns c =
    let level = c.args.level.now in
    let labels : List ℕ = c.args.labels.now in
    let i : ℕ = c.loop-index.index in
    let all : i ≡ length labels = omega (arith, c.loop-index-test.false, c.loop-index.auto.index-end, c.node_count-index-end.ensures, c.requires.long) in
    let made : ℕ → Group = λ l. group_of level l (places_with labels l) [] in
    map_of_groups made (leading labels) c.loop-index.groups.items
    (same_groups (nodes_to level labels i) made (leading labels) c.loop-index.groups.items c.loop-index.invariant
    (λ j lt. ap (λ (z : List ℕ). group_of level (get_or (leading labels) j 0) z []) (sym (all_with_key labels i (get_or (leading labels) j 0) all))))
