use Rattle.std.proofs.Common.{[], ◌∷◌, false, refl, rules}
use Rattle.std.specs.Prelude.{codes}
use Rattle.serde_json.specs.Data.{object}
use Rattle.grid_json.specs.declared.command.EditVerb.TheVariants.{AddSwitch}
use Rattle.grid_json.specs.declared.command.Verb.TheVariants.{Change}
use Rattle.grid_json.specs.Reading.{flag_at}
use Rattle.grid_json.specs.Command.{command_names, request_at, edit_at, add_switch_at}
use Rattle.grid_json.proofs.CommandTokens.{command_is, only_these}
use Rattle.grid_json.proofs.MemberSlots.{filled_is, member_or_is}
use Rattle.grid_json.proofs.command_tokens.added_switch.Goals as goal

pub returns-clause-edit : goal.returns-clause-edit
unfolding request_at edit_at add_switch_at
returns-clause-edit c = λ old begins.
    let slot_names = codes "do" ∷ codes "id" ∷ codes "kind" ∷ codes "level" ∷ codes "node1" ∷ codes "node2"
    ∷ codes "open" ∷ codes "retained" ∷ codes "fictitious" ∷ [] in
    let verb = Change AddSwitch in
    let flags = c.in_ok-slots.slots.second.second.second in
    let read = c.in_ok-slots.ensures.slots verb old begins in
    let found = read.0 in
    let held = read.2.2 in (
      object found,
      read.1,
      command_is c.args.format verb found _ read.2.0
          (only_these slot_names (command_names verb) found read.2.1 refl) (rw (
            filled_is held.0.id c.in_ok-named.was,
            filled_is held.1.0 c.in_ok-level.was,
            filled_is held.0.kind c.in_ok-named-2.was,
            filled_is held.1.1.0.node1 c.in_ok-nodes.was,
            filled_is held.1.1.0.node2 c.in_ok-nodes-2.was,
            member_or_is flag_at (codes "open") false found flags.opened held.1.1.1.opened,
            ← c.unwrap_or.ensures,
            member_or_is flag_at (codes "retained") false found flags.retained held.1.1.1.retained,
            ← c.unwrap_or-2.ensures,
            member_or_is flag_at (codes "fictitious") false found flags.fictitious held.1.1.1.fictitious,
            ← c.unwrap_or-3.ensures,
          ) (search rules)),
    )
