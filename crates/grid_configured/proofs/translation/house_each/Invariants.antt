use Rattle.std.proofs.Common.{◌≡◌}
use Rattle.std.specs.Prelude.{map}
use Rattle.grid_configured.specs.Partial.{housed}
use Rattle.grid_configured.proofs.translation.house_each.Given as goal

abbrev pub invariant-loop-level : goal.invariant-loop-level
invariant-loop-level l = l.made ≡ map housed l.yielded
