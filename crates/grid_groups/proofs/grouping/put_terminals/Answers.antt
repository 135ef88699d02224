use Rattle.std.proofs.Common.{◌≡◌, refl, sym, ap, ◌∙◌, subst, ◌+◌, List, ℕ, length, get_or, set, arith, length-set}
use Rattle.grid_graph.specs.Components.{places}
use Rattle.grid_groups.specs.declared.grouping.Group.{Group}
use Rattle.grid_groups.specs.Labels.{leading, group_of, places_with, no_group}
use Rattle.grid_groups.proofs.GroupMembers.{AreGroups, terminals_to, with_terminal, with_key, groups_of_map, map_of_groups, same_groups, number_at, terminal_put, terminal_skipped, all_with_key}
use Rattle.grid_groups.proofs.grouping.put_terminals.Goals as goal
use Rattle.grid_groups.proofs.grouping.put_terminals.Goals.{then-labels-key+in_ok-push_terminal, else-labels-key}

pub loop-place-init : goal.loop-place-init
unfolding places with_key
loop-place-init c = record {
  long = c.requires.groups;
  each = λ level nodes e. groups_of_map (terminals_to level nodes c.args.keys.now 0) (leading c.args.labels.now) c.args.groups.now.items e;
}

pub push_terminal-requires : goal.push_terminal-requires
push_terminal-requires c =
    let i : ℕ = c.loop-place.place in
    omega (arith, (number_at c.args.labels.now c.args.numbers.now c.requires.numbers (get_or c.args.keys.now i 0) (c.requires.keys i c.loop-place-test.true) c.if-labels-key.true).0, c.loop-place.invariant.long)

pub loop-place-preserved : goal.loop-place-preserved
loop-place-preserved c =
    let labels : List ℕ = c.args.labels.now in
    let numbers : List ℕ = c.args.numbers.now in
    let keys : List ℕ = c.args.keys.now in
    let i : ℕ = c.loop-place.place in
    let key : ℕ = get_or keys i 0 in
    let groups : List Group = c.loop-place.groups.items in
    let number : ℕ = get_or numbers key 0 in
    elim c.if-labels-key.branch [
      | then-labels-key+in_ok-push_terminal w ↦
          (let now : c.if-labels-key.groups.items ≡ set groups number (with_terminal (get_or groups number no_group) i) = ap (λ z. z.items) w.groups-is ∙ w.in_ok-push_terminal.ensures in
          record {
            long = ap length now ∙ length-set groups number (with_terminal (get_or groups number no_group) i) ∙ c.loop-place.invariant.long;
            each = λ level nodes e. (let P : List Group → Type 0 = λ z. AreGroups (terminals_to level nodes keys (i + 1)) (leading labels) z in
                subst P (sym now)
                (terminal_put labels numbers c.requires.numbers level nodes keys groups i key number (c.loop-place.invariant.each level nodes e) refl (c.requires.keys i c.loop-place-test.true) w.if-labels-key.true refl));
          })
      | else-labels-key w ↦
          (let now : c.if-labels-key.groups.items ≡ groups = ap (λ z. z.items) w.groups-is in
          record {
            long = ap length now ∙ c.loop-place.invariant.long;
            each = λ level nodes e. (let P : List Group → Type 0 = λ z. AreGroups (terminals_to level nodes keys (i + 1)) (leading labels) z in
                subst P (sym now) (terminal_skipped labels numbers c.requires.numbers level nodes keys groups i key (c.loop-place.invariant.each level nodes e) refl w.if-labels-key.false));
          })
    ]

pub returns : goal.returns
returns c level nodes e =
    let labels : List ℕ = c.args.labels.now in
    let keys : List ℕ = c.args.keys.now in
    let i : ℕ = c.loop-place.place in
    let all : i ≡ length keys = omega (arith, c.loop-place-test.false, c.loop-place.auto.place-end) in
    let made : ℕ → Group = λ l. group_of level l (nodes l) (places_with keys l) in
    map_of_groups made (leading labels) c.loop-place.groups.items
    (same_groups (terminals_to level nodes keys i) made (leading labels) c.loop-place.groups.items (c.loop-place.invariant.each level nodes e)
    (λ j lt. (let l : ℕ = get_or (leading labels) j 0 in ap (λ (z : List ℕ). group_of level l (nodes l) z) (sym (all_with_key keys i l all)))))
