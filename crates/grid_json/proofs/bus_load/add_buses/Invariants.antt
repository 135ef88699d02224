use Rattle.std.proofs.Common.{◌≡◌, ◌≤◌}
use Rattle.std.specs.Prelude.{drop}
use Rattle.grid_json.specs.Loading.{buses_load}
use Rattle.grid_json.proofs.bus_load.add_buses.Given as goal

abbrev pub invariant-loop-place : goal.invariant-loop-place
invariant-loop-place l =
    (buses_load l.place (drop l.place l.buses) l.level l.structure ≡ buses_load 0 l.buses l.level l.fn.structure)
    × (l.place ≤ 65536)
