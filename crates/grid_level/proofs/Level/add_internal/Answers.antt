use Rattle.std.proofs.Common.{◌≡◌, rules}
use Rattle.std.specs.Prelude.{Ok}
use Rattle.grid_level.proofs.CodePromises.{few_uses, undone, internal_refused, internal_memory, internal_done, internal_kept}
use Rattle.grid_level.specs.LevelEdits.{edge_fits, level_fault_of}
use Rattle.grid_ids.specs.Refusing.{map_fault}
use Rattle.grid_level.proofs.Level.add_internal.Goals as goal

pub returns-in-Err-clause-refused : goal.returns-in-Err-clause-refused
returns-in-Err-clause-refused c = internal_refused c.args.self.now c.args.node1 c.args.node2 c.in-Err.fault (search rules)

pub add_two-requires : goal.add_two-requires
add_two-requires c = few_uses _ _ c.self.invariant

pub returns-in-Err-add_two-clause-refused : goal.returns-in-Err-add_two-clause-refused
returns-in-Err-add_two-clause-refused c = internal_memory c.args.self.now c.args.node1 c.args.node2 c.in-Ok.pair (search rules)

pub invariant_of-self-in-Ok-push : goal.invariant_of-self-in-Ok-push
invariant_of-self-in-Ok-push c =
    let first : Ok c.in-Ok.pair ≡ map_fault level_fault_of (edge_fits c.args.self.now c.args.node1 c.args.node2) = search rules in
    rw (c.in-Ok-push.ensures.items, c.in-Ok-add_two.ensures.ok)
    (internal_kept _ _ c.args.node1 c.args.node2 c.in-Ok.pair.0 c.in-Ok.pair.1 c.self.invariant (rw (← c.self.view_is) at first))

pub returns-clause-done : goal.returns-clause-done
returns-clause-done c =
    let first : Ok c.in-Ok.pair ≡ map_fault level_fault_of (edge_fits c.args.self.now c.args.node1 c.args.node2) = search rules in
    rw (c.in-Ok-push.ensures.items, ← c.self.view_is)
    (internal_done _ c.args.node1 c.args.node2 c.in-Ok.pair.0 c.in-Ok.pair.1 (rw (← c.self.view_is) at first))

pub invariant_of-self-in-Err-push : goal.invariant_of-self-in-Err-push
invariant_of-self-in-Err-push c =
    rw (c.take_two.ensures, c.in-Err-push.ensures.items, c.in-Ok-add_two.ensures.ok, undone c.in-Ok.pair.0 c.in-Ok.pair.1 c.self.inside.uses) c.self.invariant

pub returns-in-Err-push-clause-refused : goal.returns-in-Err-push-clause-refused
returns-in-Err-push-clause-refused c = internal_memory c.args.self.now c.args.node1 c.args.node2 c.in-Ok.pair (search rules)
