use Rattle.std.proofs.Common.{◌≡◌, ◌<◌, length, Some, None, refl, arith}
use Rattle.json.specs.Json.{read_key}
use Rattle.json.proofs.Grammar.{read_key-shorter}
use Rattle.grid_json.specs.declared.tokens.Offer.TheVariants.{Taken}
use Rattle.grid_json.specs.Streams.{Offered}
use Rattle.grid_json.proofs.Streams.{members_begin, members_go_on, members_end}
use Rattle.grid_json.proofs.tokens.members_of.Goals as goal

pub members-init : goal.members-init
members-init g c = record {
  read = members_begin g.S.Slots.names (g.S.Slots.holds c.args.format) c.args.depth c.args.reader.now c.args.begun;
  shorter = omega arith;
}

pub members-preserved : goal.members-preserved
members-preserved g c =
    let l = c.members in
    let name = c.in-Some.name.now in
    let behind = c.next_key.new.self in
    let key : read_key l.reader ≡ Some (Some name, behind) = grind arith in
    let less = read_key-shorter l.reader (Some name) behind key in
    let names = g.S.Slots.names in
    let holds = g.S.Slots.holds c.args.format in
    let went : Offered names holds name c.args.depth behind c.take.new.reader l.slots c.take.new.self Taken = grind arith in
    let lesser : length c.take.new.reader < length behind = went.2 in
    record {
      read = members_go_on names holds c.args.depth c.args.reader.now l.reader behind c.take.new.reader name c.args.begun
          l.slots c.take.new.self l.invariant.read key went.0 went.1 lesser;
      shorter = omega (arith, less, lesser, l.invariant.shorter);
    }

pub returns-clause-rest : goal.returns-clause-rest
returns-clause-rest g c =
    let l = c.members in
    let ends : read_key l.reader ≡ Some (None, c.next_key.new.self) = grind arith in
    members_end g.S.Slots.names (g.S.Slots.holds c.args.format) c.args.depth c.args.reader.now l.reader
    c.next_key.new.self c.args.begun l.slots l.invariant.read ends
