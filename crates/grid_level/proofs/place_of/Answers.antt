use Rattle.std.proofs.Common.{rules, sym}
use Rattle.std.specs.Prelude.{nat_lt}
use Rattle.std.proofs.lemmas.List.Sorted.{IsPartitionPoint-from_clause, IsPartitionedBy-ltb}
use Rattle.grid_level.specs.declared.Placed.{Placed}
use Rattle.grid_level.proofs.Places.{place_from_point, rising_ascends}
use Rattle.grid_level.proofs.place_of.Goals as goal

pub returns-clause-value : goal.returns-clause-value
returns-clause-value c =
    let key = λ (p : Placed). p.node in
    let parted = IsPartitionedBy-ltb key _ c.args.node (rising_ascends key c.args.placed.now c.requires) in
    let point = IsPartitionPoint-from_clause (λ (p : Placed). nat_lt p.node c.args.node) _ _ c.partition_point.ensures.partitioned parted (λ a r q k. search rules) in
    sym (place_from_point key c.args.node c.args.placed.now c.partition_point.result c.partition_point.ensures.bound point.0 point.1)
