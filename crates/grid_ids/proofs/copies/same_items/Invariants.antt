use Rattle.std.proofs.Common.{◌≡◌, take}
use Rattle.grid_ids.proofs.copies.same_items.Given as goal

-- the first items are equal
abbrev pub invariant-loop-place : goal.invariant-loop-place
invariant-loop-place g l = take l.place l.items ≡ take l.place l.others
