use Rattle.std.proofs.Common.{◌≤◌, ◌-◌, length}
use Rattle.grid_json.proofs.Streams.{ItemsRead}
use Rattle.grid_json.proofs.tokens.SeqFromTokens.from_tokens.Given as goal

abbrev pub invariant-items : goal.invariant-items
invariant-items g l = record {
  read : ItemsRead (g.T.FromJson.reads l.format) (l.depth - 1) l.initial.reader l.reader l.list.items;
  shorter : length l.reader ≤ length l.initial.reader;
}

abbrev pub decreases-items : goal.decreases-items
decreases-items g l = length l.reader
