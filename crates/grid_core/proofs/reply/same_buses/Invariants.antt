use Rattle.std.proofs.Common.{◌≡◌, take}
use Rattle.grid_core.proofs.reply.same_buses.Given as goal

-- the first buses are equal
abbrev pub invariant-loop-place : goal.invariant-loop-place
invariant-loop-place l = take l.place l.buses ≡ take l.place l.others
