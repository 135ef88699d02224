use Rattle.std.proofs.Common.{◌≡◌, ℕ, ◌<◌, length, get_or}
use Rattle.grid_figures.specs.Layouts.{first_part, IsChangeOf}
use Rattle.grid_figures.specs.declared.outage.Outage.{Outage}
use Rattle.grid_unions.specs.declared.sweeps.Change.{Change}
use Rattle.grid_figures.proofs.seats.list_changes.Given as goal

abbrev pub invariant-loop-outage : goal.invariant-loop-outage
invariant-loop-outage l = record {
  place : l.place ≡ first_part l.first l.outages l.outage-index;
  long : length l.changes.items ≡ l.outage-index;
  each : (i : ℕ) (d : Outage) (e : Change) → i < l.outage-index → IsChangeOf l.starts (first_part l.first l.outages i) (get_or l.outages i d) (get_or l.changes.items i e);
}
