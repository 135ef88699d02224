use Rattle.std.proofs.Common.{[], ◌∷◌, refl, rules}
use Rattle.std.specs.Prelude.{codes}
use Rattle.serde_json.specs.Data.{object}
use Rattle.grid_json.specs.declared.command.Verb.TheVariants.{Retain}
use Rattle.grid_json.specs.Command.{command_names, request_at, retain_at}
use Rattle.grid_json.proofs.CommandTokens.{command_is, only_these}
use Rattle.grid_json.proofs.MemberSlots.{filled_is}
use Rattle.grid_json.proofs.command_tokens.retained_switch.Goals as goal

pub returns-clause-request : goal.returns-clause-request
unfolding request_at retain_at
returns-clause-request c = λ old begins.
    let slot_names = codes "do" ∷ codes "switch" ∷ codes "retained" ∷ [] in
    let verb = Retain in
    let slots = c.in_ok-slots.slots in
    let read = c.in_ok-slots.ensures.slots verb old begins in
    let found = read.0 in
    let held = read.2.2 in (
      object found,
      read.1,
      command_is c.args.format verb found _ read.2.0
          (only_these slot_names (command_names verb) found read.2.1 refl) (rw (
            filled_is held.0 c.in_ok-slots-2.was,
            filled_is held.1 c.in_ok-slots-3.was,
          ) (search rules)),
    )
