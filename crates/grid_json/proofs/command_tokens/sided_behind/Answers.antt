use Rattle.std.proofs.Common.{pos, rules}
use Rattle.std.specs.Prelude.{codes}
use Rattle.grid_json.specs.Reading.{whole_at}
use Rattle.grid_json.proofs.MemberSlots.{filled_is, member_or_is}
use Rattle.grid_json.proofs.command_tokens.sided_behind.Goals as goal

pub returns-clause-sided : goal.returns-clause-sided
returns-clause-sided c = λ verb old begins.
    let read = c.in_ok-slots.ensures.slots verb old begins in
    let held = read.2.2 in
    let side = member_or_is whole_at (codes "side") (pos 1) read.0 c.in_ok-slots.slots.second.value held.1 in (
      read.0,
      read.1,
      (read.2.0, read.2.1, (filled_is held.0 c.in_ok-slots-2.was, rw (side, ← c.unwrap_or.ensures) (search rules))),
    )
