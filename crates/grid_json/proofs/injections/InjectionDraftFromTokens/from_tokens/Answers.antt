use Rattle.std.proofs.Common.{rules}
use Rattle.serde_json.specs.Data.{object}
use Rattle.grid_json.specs.Network.{injection_at}
use Rattle.grid_json.proofs.Absent.{injection_known}
use Rattle.grid_json.proofs.MemberSlots.{filled_is}
use Rattle.grid_json.proofs.injections.InjectionDraftFromTokens.from_tokens.Goals as goal

pub returns-clause-read : goal.returns-clause-read
unfolding injection_at
returns-clause-read c =
    let read = c.in_ok-slots.ensures.object in
    let found = read.0 in
    let held = read.2.1 in
    let format = c.args.format in
    let item = c.in_ok-item.ensures format found (c.figures_in.ensures format found held.1.1) in (
      object found,
      read.1,
      rw (
        filled_is held.0.kind c.in_ok-kinds.was,
        injection_known c.in_ok-kinds.field-0 found read.2.0 item.1,
        filled_is held.1.0.id c.in_ok-place.was,
        filled_is held.1.0.node c.in_ok-place-2.was,
        item.0,
      ) (search rules),
    )
