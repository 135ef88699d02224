use Rattle.std.proofs.Common.{[], ◌∷◌, refl, rules}
use Rattle.std.specs.Prelude.{codes}
use Rattle.serde_json.specs.Data.{object}
use Rattle.grid_json.specs.declared.command.EditVerb.TheVariants.{AddLevel}
use Rattle.grid_json.specs.declared.command.Verb.TheVariants.{Change}
use Rattle.grid_json.specs.Command.{command_names, request_at, edit_at, add_level_at}
use Rattle.grid_json.proofs.CommandTokens.{command_is, only_these}
use Rattle.grid_json.proofs.MemberSlots.{filled_is}
use Rattle.grid_json.proofs.command_tokens.added_level.Goals as goal

pub returns-clause-edit : goal.returns-clause-edit
unfolding request_at edit_at add_level_at
returns-clause-edit c = λ old begins.
    let slot_names = codes "do" ∷ codes "id" ∷ codes "nominal_v" ∷ codes "low_v" ∷ codes "high_v"
    ∷ codes "substation" ∷ [] in
    let verb = Change AddLevel in
    let slots = c.in_ok-slots.slots in
    let read = c.in_ok-slots.ensures.slots verb old begins in
    let found = read.0 in
    let held = read.2.2 in (
      object found,
      read.1,
      command_is c.args.format verb found _ read.2.0
          (only_these slot_names (command_names verb) found read.2.1 refl) (rw (
            filled_is held.0.id c.in_ok-voltages.was,
            filled_is held.1 c.in_ok-substation.was,
            filled_is held.0.nominal_v c.in_ok-voltages-2.was,
            held.0.low_v.holds,
            held.0.high_v.holds,
          ) (search rules)),
    )
