use Rattle.grid_json.proofs.CommandTokens.{lone_held}
use Rattle.grid_json.proofs.command_tokens.lone_id.Goals as goal

pub returns-clause-id : goal.returns-clause-id
returns-clause-id g c =
    lone_held c.args.format g.N.MemberName.name c.args.depth c.args.reader.now c.behind_verb.new.reader
    c.in_ok-slot.slot.value c.in_ok-slot.ensures.slots
