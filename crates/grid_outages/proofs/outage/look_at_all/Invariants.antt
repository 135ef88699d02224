use Rattle.std.proofs.Common.{◌≡◌, ◌-◌, ◌≤◌, length}
use Rattle.grid_outages.proofs.ShownLevels.{Halfway}
use Rattle.grid_outages.proofs.outage.look_at_all.Given as goal

abbrev pub invariant-loop-place : goal.invariant-loop-place
invariant-loop-place l = record {
  half : Halfway l.powers.listed l.fn.changes l.changes l.from;
  count : l.count ≡ length l.changes;
}

abbrev pub decreases-loop-place : goal.decreases-loop-place
decreases-loop-place l = l.count - l.from
