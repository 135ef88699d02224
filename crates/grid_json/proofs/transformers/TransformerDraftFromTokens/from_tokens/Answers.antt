use Rattle.std.proofs.Common.{rules}
use Rattle.serde_json.specs.Data.{object}
use Rattle.grid_json.specs.Network.{transformer_at}
use Rattle.grid_json.proofs.MemberSlots.{filled_is}
use Rattle.grid_json.proofs.transformers.TransformerDraftFromTokens.from_tokens.Goals as goal

pub returns-clause-read : goal.returns-clause-read
unfolding transformer_at
returns-clause-read c =
    let read = c.in_ok-slots.ensures.object in
    let found = read.0 in
    let held = read.2.1 in
    let windings = c.in_ok-windings_in.ensures c.args.format (object found) (filled_is held.1.0 c.in_ok-ends.was)
    (filled_is held.1.1 c.in_ok-rated_u.was) in (
      object found,
      read.1,
      rw (
        filled_is held.0.0 c.in_ok-kind.was,
        read.2.0,
        filled_is held.0.1 c.in_ok-id.was,
        windings,
      ) (search rules),
    )
