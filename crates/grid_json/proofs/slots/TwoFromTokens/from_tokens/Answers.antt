use Rattle.std.proofs.Common.{◌≡◌, ◌∷◌, Some, arith}
use Rattle.json.specs.Token.{Token}
use Rattle.json.specs.Json.{after_end_array}
use Rattle.grid_json.proofs.Pairs.{two_end}
use Rattle.grid_json.proofs.slots.TwoFromTokens.from_tokens.Goals as goal

pub returns-clause-read : goal.returns-clause-read
returns-clause-read g c =
    let opens : c.args.reader.now ≡ Token.begin_array ∷ c.next.new.self = grind arith in
    let left = c.next_item.new.reader in
    let rest = c.next_item-2.new.reader in
    let ends : after_end_array rest ≡ Some c.take_end_array.new.self = grind arith in
    let first = c.in_ok-first.ensures in
    let second = c.in_ok-second.ensures in
    two_end (g.T.FromJson.reads c.args.format) c.args.depth c.args.reader.now c.next.new.self left rest
    c.take_end_array.new.self c.in_ok-first.first c.in_ok-second.second (omega arith) opens
    first.item.0 first.item.1 first.shorter second.item.0 second.item.1 second.shorter ends
