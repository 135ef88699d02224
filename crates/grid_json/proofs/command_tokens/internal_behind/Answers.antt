use Rattle.std.proofs.Common.{rules}
use Rattle.grid_json.proofs.MemberSlots.{filled_is}
use Rattle.grid_json.proofs.command_tokens.internal_behind.Goals as goal

pub returns-clause-edit : goal.returns-clause-edit
returns-clause-edit c = λ verb old begins.
    let read = c.in_ok-slots.ensures.slots verb old begins in
    let held = read.2.2 in (
      read.0,
      read.1,
      (
        read.2.0,
        read.2.1,
        (
          filled_is held.0 c.in_ok-level.was,
          rw (filled_is held.1.node1 c.in_ok-nodes.was) (search rules),
          rw (filled_is held.1.node2 c.in_ok-nodes-2.was) (search rules),
        ),
      ),
    )
