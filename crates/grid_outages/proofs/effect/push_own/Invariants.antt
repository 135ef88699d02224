use Rattle.std.proofs.Common.{◌≡◌, ◌++◌, take}
use Rattle.grid_outages.specs.Parts.{own_among}
use Rattle.grid_outages.proofs.effect.push_own.Given as goal

abbrev pub invariant-loop-place : goal.invariant-loop-place
invariant-loop-place l = l.own ≡ l.fn.own ++ own_among l.links l.changes (take l.place-index l.places)
