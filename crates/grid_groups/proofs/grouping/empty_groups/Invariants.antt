use Rattle.std.proofs.Common.{◌≡◌, ◌==◌, [], get_or}
use Rattle.std.specs.Prelude.{map, filter}
use Rattle.grid_graph.specs.Components.{places}
use Rattle.grid_groups.specs.Labels.{group_of, AreNumbers}
use Rattle.grid_groups.proofs.grouping.empty_groups.Given as goal

abbrev pub invariant-loop-leader : goal.invariant-loop-leader
invariant-loop-leader l = record {
  groups : l.groups.items ≡ map (λ k. group_of l.level k [] []) (filter (λ k. get_or l.labels k 0 == k) (places l.leader));
  numbers : AreNumbers l.labels l.leader l.numbers.items;
}
