use Rattle.std.proofs.Common.{◌≡◌}
use Rattle.grid_powers.specs.Listed.{Listed}
use Rattle.grid_watts.specs.Watts.{terminals_before}
use Rattle.grid_watts.specs.Nodes.{listed_rows, IsListing}
use Rattle.grid_watts.proofs.Gatherings.{HasValuesOf}
use Rattle.grid_watts.proofs.collecting.collected.Given as goal

abbrev pub invariant-loop-place : goal.invariant-loop-place
invariant-loop-place l =
    (l.powers.load ≡ l.states.load) × (l.powers.generation ≡ l.states.generation)
    × ((listed : Listed) → IsListing l.structure listed → l.states.watts ≡ listed_rows listed l.structure → HasValuesOf listed (terminals_before l.structure l.place) l.powers.listed)
