use Rattle.std.proofs.Common.{◌≡◌, ◌≤◌, map, take, length}
use Rattle.std.specs.Vec.{vec_len, vec_capacity}
use Rattle.grid_busview.specs.Labelled.{led_place}
use Rattle.grid_busview.proofs.LeadingLabels.{before}
use Rattle.grid_busview.proofs.leading.bus_places.Given as goal

-- the places so far, and room for the others
abbrev pub invariant-loop-index : goal.invariant-loop-index
invariant-loop-index l = record {
  done : l.places.items ≡ map (led_place l.labels l.counts) (take l.index l.labels);
  count : l.bus_count ≡ before l.labels l.counts l.index;
  len : vec_len l.places ≡ l.index;
  room : length l.labels ≤ vec_capacity l.places;
}
