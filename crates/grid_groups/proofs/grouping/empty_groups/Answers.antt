use Rattle.std.proofs.Common.{◌≡◌, sym, ap, ◌∙◌, subst, ◌+◌, [], ℕ, List, length, get_or, Bool, arith}
use Rattle.std.specs.Prelude.{eqb, map, filter}
use Rattle.std.proofs.lemmas.Bool.{eq-eqb, ne_eqb}
use Rattle.std.proofs.lemmas.List.{length-map}
use Rattle.grid_graph.specs.Components.{places}
use Rattle.grid_groups.specs.declared.grouping.Group.{Group}
use Rattle.grid_groups.specs.Labels.{leading, group_of, AreNumbers}
use Rattle.grid_groups.proofs.GroupMembers.{few_passed, numbers_set, numbers_past}
use Rattle.grid_groups.proofs.Steps.{mapped_place, unmapped_place}
use Rattle.grid_groups.proofs.grouping.empty_groups.Goals as goal
use Rattle.grid_groups.proofs.grouping.empty_groups.Goals.{then-labels-index+in_ok-empty_group+in_ok-push, else-labels-index}

pub loop-leader-init : goal.loop-leader-init
unfolding places
loop-leader-init c = record { groups = c.new-groups.ensures.items; numbers = (c.requires.numbers, λ k lt. absurd (omega (arith, lt))) }

pub overflow_cast-len : goal.overflow_cast-len
overflow_cast-len c =
    let leads : ℕ → Bool = λ k. eqb (get_or c.args.labels.now k 0) k in
    let made : ℕ → Group = λ k. group_of c.args.level.now k [] [] in
    let leader : ℕ = c.loop-leader.leader in
    omega
    (arith, c.len.ensures, ap length c.loop-leader.invariant.groups, length-map (filter leads (places leader)) made, few_passed leads leader, c.loop-leader-test.true, c.node_count-count.type_inv)

pub loop-leader-preserved : goal.loop-leader-preserved
loop-leader-preserved c =
    let labels : List ℕ = c.args.labels.now in
    let leader : ℕ = c.loop-leader.leader in
    let made : ℕ → Group = λ k. group_of c.args.level.now k [] [] in
    let leads : ℕ → Bool = λ k. eqb (get_or labels k 0) k in
    let P : List ℕ → Type 0 = λ z. AreNumbers labels (leader + 1) z in
    elim c.if-labels-index.branch [
      | then-labels-index+in_ok-empty_group+in_ok-push w ↦ record {
        groups = ap (λ z. z.items) w.groups-is ∙ w.in_ok-push.ensures.items
            ∙ mapped_place made leads leader c.loop-leader.groups.items w.in_ok-empty_group.field-0 (eq-eqb (get_or labels leader 0) leader w.if-labels-index.true) c.loop-leader.invariant.groups w.in_ok-empty_group.ensures;
        numbers = subst P (sym (ap (λ z. z.items) w.numbers-is))
            (numbers_set labels c.loop-leader.numbers.items leader w.len.result (omega (arith, c.loop-leader-test.true, c.node_count-count.ensures, c.requires.long)) c.loop-leader.invariant.numbers
            (omega (arith, w.len.ensures, ap length c.loop-leader.invariant.groups, length-map (filter leads (places leader)) made)));
      }
      | else-labels-index w ↦ record {
        groups = ap (λ z. z.items) w.groups-is ∙ unmapped_place made leads leader c.loop-leader.groups.items (ne_eqb (get_or labels leader 0) leader w.if-labels-index.false) c.loop-leader.invariant.groups;
        numbers = subst P (sym (ap (λ z. z.items) w.numbers-is)) (numbers_past labels c.loop-leader.numbers.items leader c.loop-leader.invariant.numbers w.if-labels-index.false);
      }
    ]

pub returns-clause-groups : goal.returns-clause-groups
unfolding leading
returns-clause-groups c =
    let labels : List ℕ = c.args.labels.now in
    let all : c.loop-leader.leader ≡ length labels = omega (arith, c.loop-leader-test.false, c.loop-leader.auto.leader-end, c.node_count-count.ensures, c.requires.long) in
    c.loop-leader.invariant.groups ∙ ap (λ n. map (λ k. group_of c.args.level.now k [] []) (filter (λ k. eqb (get_or labels k 0) k) (places n))) all
