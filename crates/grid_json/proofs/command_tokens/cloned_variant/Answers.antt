use Rattle.std.proofs.Common.{[], ◌∷◌, false, refl, rules}
use Rattle.std.specs.Prelude.{codes}
use Rattle.serde_json.specs.Data.{object}
use Rattle.grid_json.specs.declared.command.Verb.TheVariants.{Clone}
use Rattle.grid_json.specs.Reading.{flag_at}
use Rattle.grid_json.specs.Command.{command_names, request_at, clone_at}
use Rattle.grid_json.proofs.CommandTokens.{command_is, only_these}
use Rattle.grid_json.proofs.MemberSlots.{filled_is, member_or_is}
use Rattle.grid_json.proofs.command_tokens.cloned_variant.Goals as goal

pub returns-clause-request : goal.returns-clause-request
unfolding request_at clone_at
returns-clause-request c = λ old begins.
    let slot_names = codes "do" ∷ codes "from" ∷ codes "to" ∷ codes "overwrite" ∷ [] in
    let verb = Clone in
    let slots = c.in_ok-slots.slots in
    let read = c.in_ok-slots.ensures.slots verb old begins in
    let found = read.0 in
    let held = read.2.2 in (
      object found,
      read.1,
      command_is c.args.format verb found _ read.2.0
          (only_these slot_names (command_names verb) found read.2.1 refl) (rw (
            filled_is held.0 c.in_ok-from.was,
            filled_is held.1.0 c.in_ok-rest.was,
            member_or_is flag_at (codes "overwrite") false found slots.second.second.value held.1.1,
            ← c.unwrap_or.ensures,
          ) (search rules)),
    )
