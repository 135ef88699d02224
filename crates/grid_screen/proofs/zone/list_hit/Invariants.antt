use Rattle.std.proofs.Common.{◌≡◌, ◌++◌, flat_map}
use Rattle.grid_sparse.specs.Options.{AreThere}
use Rattle.std.specs.Prelude.{filter}
use Rattle.grid_screen.specs.Walks.{hits}
use Rattle.grid_screen.specs.Zones.{network_sites}
use Rattle.grid_screen.proofs.HitSites.{sites_hit}
use Rattle.grid_screen.proofs.zone.list_hit.Given as goal

abbrev pub invariant-loop-place : goal.invariant-loop-place
invariant-loop-place l = record {
  so_far : l.zone ++ flat_map sites_hit l.place-iterator ≡ filter (hits l.touched) (network_sites l.scene.net);
  there : AreThere l.touched l.place-iterator;
}
