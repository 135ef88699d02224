use Rattle.std.proofs.Common.{◌≡◌, ◌<◌, ◌≤◌, map, length, get_or}
use Rattle.grid_level.specs.declared.Placed.{Placed}
use Rattle.grid_level.specs.Passing.{nodes}
use Rattle.grid_groups.specs.Labels.{index_in, labels_placed}
use Rattle.grid_busview.specs.Labelled.{bus_leaders}
use Rattle.grid_busview.proofs.BusFilling.{fed_to, AllWithin}
use Rattle.grid_busview.proofs.view.put_terminals.Given as goal

abbrev pub invariant-loop-place : goal.invariant-loop-place
invariant-loop-place l = record {
  next : (d : Placed) → l.place < length l.level.placed → l.index ≤ index_in (nodes l.level) (get_or l.level.placed l.place d).node;
  fed : l.buses.items ≡ map (fed_to l.level l.powers l.labels (labels_placed l.level l.labels) l.place) (bus_leaders l.labels l.led.counts);
  within : AllWithin l.place l.buses.items;
}
