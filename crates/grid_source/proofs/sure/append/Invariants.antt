use Rattle.std.proofs.Common.{◌≡◌, ◌+◌, ◌≤◌, ◌++◌, length, take}
use Rattle.std.specs.Prelude.{vec_capacity}
use Rattle.grid_source.proofs.sure.append.Given as goal

-- the first bytes stand behind, in the room that there was
abbrev pub invariant-loop-place : goal.invariant-loop-place
invariant-loop-place l = record {
  items : l.room.items ≡ l.fn.room.items ++ take l.place l.bytes;
  room : vec_capacity l.room ≡ vec_capacity l.fn.room;
  spare : length l.fn.room.items + length l.bytes ≤ vec_capacity l.fn.room;
}
