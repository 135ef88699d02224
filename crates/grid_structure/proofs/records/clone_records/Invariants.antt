use Rattle.std.proofs.Common.{◌≡◌, take}
use Rattle.grid_structure.proofs.records.clone_records.Given as goal

-- the first branches are copied
abbrev pub invariant-loop-place : goal.invariant-loop-place
invariant-loop-place l = l.copy.items ≡ take l.place l.list.items
