use Rattle.std.proofs.Common.{◌≡◌, ◌++◌}
use Rattle.grid_screen.proofs.HitSites.{hit_before}
use Rattle.grid_screen.proofs.zone.push_hit.Given as goal

abbrev pub invariant-loop-index : goal.invariant-loop-index
invariant-loop-index l = l.zone ≡ l.initial.zone ++ hit_before l.place l.touched l.index
