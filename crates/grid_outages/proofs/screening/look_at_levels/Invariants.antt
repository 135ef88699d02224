use Rattle.std.proofs.Common.{◌≡◌, map, take}
use Rattle.std.specs.List.{enumerate_from}
use Rattle.grid_level.specs.Passing.{positioned}
use Rattle.grid_structure.specs.Sites.{levels}
use Rattle.grid_busview.specs.Views.{node_buses_of}
use Rattle.grid_states.specs.Rows.{row_at}
use Rattle.grid_sums.specs.Sums.{sums_of}
use Rattle.grid_outages.proofs.screening.look_at_levels.Given as goal

abbrev pub invariant-loop-place : goal.invariant-loop-place
invariant-loop-place l = record {
  places : l.places ≡ map (λ at. (node_buses_of (positioned at.1 (row_at l.states.opened at.0))).places) (take l.place (enumerate_from 0 (levels l.structure)));
  sums : l.sums ≡ map (λ at. sums_of l.powers.listed at.1 (row_at l.states.opened at.0)) (take l.place (enumerate_from 0 (levels l.structure)));
}
