use Rattle.std.specs.Prelude.{codes}
use Rattle.serde_json.specs.Data.{no_members}
use Rattle.grid_json.specs.Command.{verb_at}
use Rattle.grid_json.proofs.Streams.{led_object}
use Rattle.grid_json.proofs.command_tokens.behind_verb.Goals as goal

pub returns-clause-slots : goal.returns-clause-slots
returns-clause-slots g c =
    let format = c.args.format in
    led_object (verb_at format) (codes "do") g.S.Slots.names (g.S.Slots.holds format) c.args.depth c.args.reader.now
    c.members_of.new.reader c.empty.result c.members_of.result
    (λ d. g.met.S.Slots.kept format c.empty.result (codes "do") d no_members c.requires.other (c.empty.ensures format))
    c.requires.other c.members_of.ensures.rest
