use Rattle.std.proofs.Common.{◌≡◌, map, take}
use Rattle.grid_structure.specs.Sites.{levels}
use Rattle.grid_core.specs.Solo.{page_of}
use Rattle.grid_core.proofs.starting.record_pages.Given as goal

abbrev pub invariant-loop-place : goal.invariant-loop-place
invariant-loop-place l = l.pages.items ≡ map page_of (take l.place (levels l.structure))
