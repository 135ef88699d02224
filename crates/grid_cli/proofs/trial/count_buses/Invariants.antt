use Rattle.std.proofs.Common.{◌≡◌, ◌*◌, ◌^◌, ◌≤◌, take, length}
use Rattle.std.specs.Prelude.{sum_by}
use Rattle.grid_busview.specs.declared.BusView.{BusView}
use Rattle.grid_report.specs.declared.outcome.VariantView.{VariantView}
use Rattle.grid_cli.proofs.trial.count_buses.Given as goal

-- the buses so far
abbrev pub invariant-loop-variant : goal.invariant-loop-variant
invariant-loop-variant l = record {
  total : l.total ≡ sum_by (λ (v : VariantView). sum_by (λ (view : BusView). length view.buses) v.views) (take l.variant-index l.variants);
  few : l.total ≤ l.variant-index * (2 ^ 32 * 2 ^ 64);
}
