use Rattle.std.proofs.Common.{◌≡◌, length, map, take}
use Rattle.grid_jsonl.specs.Borrowed.{step_in}
use Rattle.grid_jsonl.specs.Steps as those
use Rattle.grid_jsonl.proofs.numbered.steps_of.Given as goal

-- the steps so far
abbrev pub invariant-loop-place : goal.invariant-loop-place
invariant-loop-place l = record {
  counted : length l.steps.items ≡ l.place;
  so_far : map step_in l.steps.items ≡ take l.place (those.steps l.journal);
}
