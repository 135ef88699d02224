use Rattle.std.proofs.Common.{◌≡◌, ◌≤◌, ◌++◌, take, drop}
use Rattle.json.specs.Print.{escape}
use Rattle.grid_jsonl.proofs.string.put_escapes.Given as goal

-- the bytes since the last escape stand as they are, and are still to be put
abbrev pub invariant-loop-at : goal.invariant-loop-at
invariant-loop-at l = record {
  within : l.start ≤ l.at;
  so_far : l.out ++ drop l.start (take l.at l.bytes) ≡ l.fn.out ++ escape (take l.at l.bytes);
}
