use Rattle.std.proofs.Common.{ap, ◌∙◌, List, ℕ}
use Rattle.std.specs.Prelude.{map}
use Rattle.grid_groups.specs.Labels.{leading, group_of, group_at, groups_by, places_with}
use Rattle.grid_groups.proofs.TerminalNodes.{groups_within}
use Rattle.grid_groups.proofs.grouping.group_nodes.Goals as goal

grouped : goal.returns-clause-groups
unfolding groups_by group_at
grouped c =
    let level = c.args.level.now in
    let labels : List ℕ = c.args.labels.now in
    c.from_vec.ensures ∙ c.in_ok-put_terminals.ensures level (places_with labels) c.in_ok-put_nodes.ensures
    ∙ ap (λ (keys : List ℕ). map (λ l. group_of level l (places_with labels l) (places_with keys l)) (leading labels)) (c.slice-2.ensures ∙ c.in_ok-keys.ensures.each)

pub returns-clause-groups : goal.returns-clause-groups
returns-clause-groups c = grouped c

pub returns-clause-within : goal.returns-clause-within
returns-clause-within c = groups_within c.args.level.now c.args.labels.now c.from_vec.result (grouped c)
