use Rattle.std.proofs.Common.{◌≡◌, [], ℕ, List, length}
use Rattle.std.specs.Prelude.{map}
use Rattle.grid_level.specs.VoltageLevel.{VoltageLevel}
use Rattle.grid_groups.specs.Labels.{leading, group_of}
use Rattle.grid_groups.proofs.GroupMembers.{AreGroups, terminals_to}
use Rattle.grid_groups.proofs.grouping.put_terminals.Given as goal

abbrev pub invariant-loop-place : goal.invariant-loop-place
invariant-loop-place l = record {
  long : length l.groups.items ≡ length (leading l.labels);
  each : (level : VoltageLevel) (nodes : ℕ → List ℕ) → l.fn.groups.items ≡ map (λ k. group_of level k (nodes k) []) (leading l.labels)
      → AreGroups (terminals_to level nodes l.keys l.place) (leading l.labels) l.groups.items;
}
