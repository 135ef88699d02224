use Rattle.std.proofs.Common.{◌≡◌, ◌∙◌, sym, subst, ◌-◌, ◌<◌, List, [], ◌∷◌, ◌++◌, length, Some, None, arith}
use Rattle.json.specs.Token.{Token}
use Rattle.json.specs.Json.{after_end_array}
use Rattle.grid_json.proofs.Streams.{ItemsRead, items_begin, items_go_on, items_end}
use Rattle.grid_json.proofs.tokens.SeqFromTokens.from_tokens.Goals as goal

pub items-init : goal.items-init
items-init g c = record {
  read = rw c.new-list.ensures.items (items_begin (g.T.FromJson.reads c.args.format) (c.args.depth - 1) c.next.new.self);
  shorter = omega arith;
}

pub items-preserved : goal.items-preserved
items-preserved g c =
    let l = c.items in
    let read = g.T.FromJson.reads c.args.format in
    let more : (after_end_array l.reader ≡ None) × (c.take_end_array.new.self ≡ l.reader) = grind arith in
    let item = rw more.1 at c.in_ok-item.ensures.read in
    let less : length c.from_tokens.new.reader < length l.reader = rw more.1 at c.in_ok-item.ensures.shorter in
    let longer : c.push.new.self.items ≡ l.list.items ++ c.in_ok-item.item ∷ [] = grind arith in
    record {
      read = rw longer (items_go_on read (c.args.depth - 1) c.next.new.self l.reader c.from_tokens.new.reader l.list.items c.in_ok-item.item l.invariant.read more.0 item less);
      shorter = omega (arith, less, l.invariant.shorter);
    }

pub returns-clause-read : goal.returns-clause-read
returns-clause-read g c =
    let l = c.items in
    let first : c.args.reader.now ≡ Token.begin_array ∷ c.next.new.self = grind arith in
    let ends : after_end_array l.reader ≡ Some c.take_end_array.new.self = grind arith in
    let P : List g.row.T.Denot → Type 0 = λ z. ItemsRead (g.T.FromJson.reads c.args.format) (c.args.depth - 1) c.next.new.self l.reader z in
    let read = subst P (sym (c.from_vec.ensures ∙ c.give_back.ensures)) l.invariant.read in
    items_end (g.T.FromJson.reads c.args.format) c.args.depth c.args.reader.now c.next.new.self l.reader c.take_end_array.new.self c.from_vec.result (omega arith) first read ends
