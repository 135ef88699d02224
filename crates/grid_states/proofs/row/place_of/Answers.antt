use Rattle.std.proofs.Common.{rules, sym}
use Rattle.std.specs.Prelude.{nat_lt}
use Rattle.std.proofs.lemmas.List.Sorted.{IsPartitionPoint-from_clause, IsPartitionedBy-ltb}
use Rattle.grid_level.proofs.Places.{place_from_point, rising_ascends}
use Rattle.grid_states.specs.declared.row.NodeWatts.{NodeWatts}
use Rattle.grid_states.proofs.WattPairs.{node}
use Rattle.grid_states.proofs.row.place_of.Goals as goal

pub returns-clause-value : goal.returns-clause-value
returns-clause-value c =
    let parted = IsPartitionedBy-ltb node _ c.args.node (rising_ascends node c.args.pairs.now c.requires) in
    let point = IsPartitionPoint-from_clause (λ (w : NodeWatts). nat_lt w.node c.args.node) _ _ c.partition_point.ensures.partitioned parted (λ a r q k. search rules) in
    sym (place_from_point node c.args.node c.args.pairs.now c.partition_point.result c.partition_point.ensures.bound point.0 point.1)
