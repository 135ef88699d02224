use Rattle.std.proofs.Common.{◌≡◌, take}
use Rattle.std.specs.Prelude.{flat_map}
use Rattle.grid_outages.specs.Effects.{joined_of}
use Rattle.grid_outages.proofs.screening.list_joined.Given as goal

abbrev pub invariant-loop-link : goal.invariant-loop-link
invariant-loop-link l = l.joined ≡ flat_map joined_of (take l.link-index l.links)
