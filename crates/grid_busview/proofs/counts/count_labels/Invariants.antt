use Rattle.std.proofs.Common.{◌≡◌, ℕ, ◌<◌, ◌≤◌, length, get_or}
use Rattle.grid_level.specs.declared.Placed.{Placed}
use Rattle.grid_level.specs.Passing.{nodes}
use Rattle.grid_groups.specs.Labels.{index_in, items_at, labels_placed}
use Rattle.grid_busview.specs.Labelled.{count_of, nothing}
use Rattle.grid_busview.proofs.LabelTallies.{keyed}
use Rattle.grid_busview.proofs.counts.count_labels.Given as goal

abbrev pub invariant-loop-placed : goal.invariant-loop-placed
invariant-loop-placed l = record {
  long : length l.counts.items ≡ length l.labels;
  next : (d : Placed) → l.placed-index < length l.level.placed → l.index ≤ index_in (nodes l.level) (get_or l.level.placed l.placed-index d).node;
  each : (label : ℕ) → label < length l.labels → get_or l.counts.items label nothing ≡ count_of (items_at l.level.placed (keyed (labels_placed l.level l.labels) label l.placed-index));
}
