use Rattle.std.proofs.Common.{◌≡◌, ◌*◌, ◌^◌, ◌≤◌, take, length}
use Rattle.std.specs.Prelude.{sum_by}
use Rattle.grid_busview.specs.declared.BusView.{BusView}
use Rattle.grid_cli.proofs.trial.count_view_buses.Given as goal

-- the buses so far
abbrev pub invariant-loop-view : goal.invariant-loop-view
invariant-loop-view l = record {
  total : l.total ≡ sum_by (λ (v : BusView). length v.buses) (take l.view-index l.views);
  few : l.total ≤ l.view-index * 2 ^ 64;
}
