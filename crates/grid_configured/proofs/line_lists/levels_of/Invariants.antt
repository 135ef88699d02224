use Rattle.std.proofs.Common.{◌≡◌, take}
use Rattle.std.specs.Prelude.{map}
use Rattle.grid_configured.specs.Levels.{item_outlet}
use Rattle.grid_configured.specs.Partial.{growing}
use Rattle.grid_configured.proofs.line_lists.levels_of.Given as goal

abbrev pub invariant-loop-level : goal.invariant-loop-level
invariant-loop-level l = l.made.items ≡ map (λ m. growing m (map (item_outlet m) m.items)) (take l.level-index l.level-items)
