use Rattle.std.proofs.Common.{◌≡◌, map, filter, take, length}
use Rattle.std.specs.List.{zip}
use Rattle.grid_level.specs.Passing.{nodes, switch_ends}
use Rattle.grid_groups.specs.Labels.{pair_by_index, passing_flag, Joins}
use Rattle.grid_groups.proofs.joining.join_switches.Given as goal

abbrev pub invariant-loop-pair : goal.invariant-loop-pair
invariant-loop-pair l = record {
  long : length l.joiner ≡ length l.initial.joiner;
  joined : Joins (length (nodes l.indices)) (map (pair_by_index (nodes l.indices)) (map (λ pair. pair.0) (filter (λ pair. passing_flag l.passing pair.1) (take (length l.yielded) (zip (map switch_ends l.indices.switches) l.flags))))) l.initial.joiner l.joiner;
}
