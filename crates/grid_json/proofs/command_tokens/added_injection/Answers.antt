use Rattle.std.proofs.Common.{refl, rules}
use Rattle.serde_json.specs.Data.{object}
use Rattle.grid_json.specs.declared.command.EditVerb.TheVariants.{AddInjection}
use Rattle.grid_json.specs.declared.command.Verb.TheVariants.{Change}
use Rattle.grid_json.specs.Command.{request_at, edit_at, add_injection_at}
use Rattle.grid_json.proofs.Absent.{added_injection_known}
use Rattle.grid_json.proofs.CommandTokens.{command_is}
use Rattle.grid_json.proofs.MemberSlots.{filled_is}
use Rattle.grid_json.proofs.command_tokens.added_injection.Goals as goal

pub returns-clause-edit : goal.returns-clause-edit
unfolding request_at edit_at add_injection_at
returns-clause-edit c = λ old begins.
    let format = c.args.format in
    let verb = Change AddInjection in
    let read = c.in_ok-slots.ensures.slots verb old begins in
    let found = read.0 in
    let held = read.2.2 in
    let item = c.in_ok-item.ensures format found (c.figures_in.ensures format found held.1.1.1) in (
      object found,
      read.1,
      command_is format verb found _ read.2.0 refl (rw (
        filled_is held.0.kind c.in_ok-kinds.was,
        added_injection_known c.in_ok-kinds.field-0 found read.2.1 item.1,
        filled_is held.1.0.id c.in_ok-place.was,
        filled_is held.1.1.0 c.in_ok-level.was,
        filled_is held.1.0.node c.in_ok-place-2.was,
        item.0,
      ) (search rules)),
    )
