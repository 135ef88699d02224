use Rattle.std.proofs.Common.{rules}
use Rattle.serde_json.specs.Data.{object}
use Rattle.grid_json.specs.Network.{line_at}
use Rattle.grid_json.proofs.MemberSlots.{filled_is}
use Rattle.grid_json.proofs.slots.LineDraftFromTokens.from_tokens.Goals as goal

pub returns-clause-read : goal.returns-clause-read
unfolding line_at
returns-clause-read c =
    let read = c.in_ok-slots.ensures.object in
    let held = read.2.1 in (
      object read.0,
      read.1,
      rw (
        read.2.0,
        filled_is held.id c.in_ok-slots-2.was,
        filled_is held.ends c.in_ok-slots-3.was,
      ) (search rules),
    )
