use Rattle.std.proofs.Common.{◌≡◌, ◌∷◌, arith}
use Rattle.json.specs.Token.{Token}
use Rattle.grid_json.proofs.Streams.{object_read}
use Rattle.grid_json.proofs.tokens.object_of.Goals as goal

pub returns-clause-object : goal.returns-clause-object
returns-clause-object g c =
    let opens : c.args.reader.now ≡ Token.begin_object ∷ c.next.new.self = grind arith in
    object_read g.S.Slots.names (g.S.Slots.holds c.args.format) c.args.depth c.args.reader.now c.next.new.self
    c.members_of.new.reader c.empty.result c.members_of.result (omega arith) opens (c.empty.ensures c.args.format)
    c.members_of.ensures.rest
