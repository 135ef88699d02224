use Rattle.std.proofs.Common.{refl, rules}
use Rattle.serde_json.specs.Data.{object}
use Rattle.grid_json.specs.declared.command.EditVerb.TheVariants.{AddBranch}
use Rattle.grid_json.specs.declared.command.Verb.TheVariants.{Change}
use Rattle.grid_json.specs.Command.{request_at, edit_at, add_branch_at}
use Rattle.grid_json.proofs.CommandTokens.{command_is}
use Rattle.grid_json.proofs.MemberSlots.{filled_is}
use Rattle.grid_json.proofs.command_tokens.added_branch.Goals as goal

pub returns-clause-edit : goal.returns-clause-edit
unfolding request_at edit_at add_branch_at
returns-clause-edit c = λ old begins.
    let format = c.args.format in
    let verb = Change AddBranch in
    let slots = c.in_ok-slots.slots in
    let read = c.in_ok-slots.ensures.slots verb old begins in
    let found = read.0 in
    let held = read.2.2 in
    let shape = c.in_ok-branch.ensures found (rw c.in_ok-ends.was at held.1.1.0) held.1.1.1.0 held.1.1.1.1 in (
      object found,
      read.1,
      command_is format verb found _ read.2.0 refl (rw (
        filled_is held.0 c.in_ok-kind.was,
        shape.1 read.2.1,
        filled_is held.1.0 c.in_ok-id.was,
        shape.0,
        c.in_ok-shape.ensures,
      ) (search rules)),
    )
