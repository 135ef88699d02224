use Rattle.std.proofs.Common.{◌≡◌, rules, arith}
use Rattle.std.specs.Prelude.{Ok}
use Rattle.grid_level.proofs.CodePromises.{few_uses, edges_bound, undone, switch_refused, switch_memory, switch_of, switch_done, switch_kept}
use Rattle.grid_level.specs.LevelEdits.{edge_fits, level_fault_of}
use Rattle.grid_ids.specs.Refusing.{map_fault}
use Rattle.grid_level.proofs.Level.add_switch.Goals as goal

pub returns-in-Err-clause-refused : goal.returns-in-Err-clause-refused
returns-in-Err-clause-refused c = switch_refused c.args.self.now c.args.id c.args.kind c.args.node1 c.args.node2 c.args.opened c.args.retained c.args.fictitious c.in-Err.fault (search rules)

pub overflow_cast-place : goal.overflow_cast-place
overflow_cast-place c = omega (arith, edges_bound _ _ c.self.invariant)

pub add_two-requires : goal.add_two-requires
add_two-requires c = few_uses _ _ c.self.invariant

pub returns-in-Err-add_two-clause-refused : goal.returns-in-Err-add_two-clause-refused
returns-in-Err-add_two-clause-refused c = switch_memory c.args.self.now c.args.id c.args.kind c.args.node1 c.args.node2 c.args.opened c.args.retained c.args.fictitious c.in-Ok.pair (search rules)

pub invariant_of-self-in-Ok-push_switch : goal.invariant_of-self-in-Ok-push_switch
invariant_of-self-in-Ok-push_switch c =
    let first : Ok c.in-Ok.pair ≡ map_fault level_fault_of (edge_fits c.args.self.now c.args.node1 c.args.node2) = search rules in
    rw (c.in-Ok-push_switch.ensures.switches, c.in-Ok-push_switch.ensures.ends, c.in-Ok-add_two.ensures.ok)
    (switch_kept _ _ c.args.node1 c.args.node2 (switch_of c.args.id c.args.kind c.in-Ok.pair.0 c.in-Ok.pair.1 c.args.opened c.args.retained c.args.fictitious) c.self.invariant (rw (← c.self.view_is) at first))

pub returns-clause-done : goal.returns-clause-done
returns-clause-done c =
    let first : Ok c.in-Ok.pair ≡ map_fault level_fault_of (edge_fits c.args.self.now c.args.node1 c.args.node2) = search rules in
    rw (c.in-Ok-push_switch.ensures.switches, ← c.self.view_is)
    (switch_done _ c.args.node1 c.args.node2 (switch_of c.args.id c.args.kind c.in-Ok.pair.0 c.in-Ok.pair.1 c.args.opened c.args.retained c.args.fictitious) (rw (← c.self.view_is) at first))

pub invariant_of-self-in-Err-push_switch : goal.invariant_of-self-in-Err-push_switch
invariant_of-self-in-Err-push_switch c =
    rw (c.take_two.ensures, c.in-Err-push_switch.ensures.same_switches, c.in-Err-push_switch.ensures.same_ends, c.in-Ok-add_two.ensures.ok, undone c.in-Ok.pair.0 c.in-Ok.pair.1 c.self.inside.uses) c.self.invariant

pub returns-in-Err-push_switch-clause-refused : goal.returns-in-Err-push_switch-clause-refused
returns-in-Err-push_switch-clause-refused c = switch_memory c.args.self.now c.args.id c.args.kind c.args.node1 c.args.node2 c.args.opened c.args.retained c.args.fictitious c.in-Ok.pair (search rules)
