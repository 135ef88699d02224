use Rattle.std.proofs.Common.{◌≡◌, false, take}
use Rattle.std.specs.List.{list_any}
use Rattle.grid_structure.specs.Sites.{levels}
use Rattle.grid_print.specs.Formats.{level_needs}
use Rattle.grid_print.proofs.formats.network_needs.Given as goal

abbrev pub invariant-loop-place : goal.invariant-loop-place
invariant-loop-place l = list_any (level_needs l.format) (take l.place (levels l.network)) ≡ false
