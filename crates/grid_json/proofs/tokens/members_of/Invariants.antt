use Rattle.std.proofs.Common.{◌≤◌, length}
use Rattle.grid_json.proofs.Streams.{MembersRead}
use Rattle.grid_json.proofs.tokens.members_of.Given as goal

abbrev pub invariant-members : goal.invariant-members
invariant-members g l = record {
  read : MembersRead g.S.Slots.names (g.S.Slots.holds l.format) l.depth l.initial.reader l.reader l.initial.slots l.slots;
  shorter : length l.reader ≤ length l.initial.reader;
}

abbrev pub decreases-members : goal.decreases-members
decreases-members g l = length l.reader
