use Rattle.std.proofs.Common.{◌≡◌, take}
use Rattle.std.specs.Prelude.{flat_map}
use Rattle.grid_structure.specs.Sites.{branches}
use Rattle.grid_outages.specs.Changes.{branch_links}
use Rattle.grid_outages.proofs.screening.list_links.Given as goal

abbrev pub invariant-loop-place : goal.invariant-loop-place
invariant-loop-place l = l.links ≡ flat_map (λ b. branch_links l.structure l.rows b.shape) (take l.place (branches l.structure))
