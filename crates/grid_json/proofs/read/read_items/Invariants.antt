use Rattle.std.proofs.Common.{◌≡◌, ◌+◌, length}
use Rattle.grid_value.specs.View.{items_view, items_len}
use Rattle.grid_json.specs.Reading.{items_at}
use Rattle.grid_json.proofs.Items.{with_front}
use Rattle.grid_json.proofs.read.read_items.Given as goal

-- what was read and what is left lead to what all leads to
abbrev pub invariant-loop-item : goal.invariant-loop-item
invariant-loop-item g l = record {
  items : with_front l.list (items_at (g.T.FromJson.reads l.format) (length l.list) (items_view l.left)) ≡ items_at (g.T.FromJson.reads l.format) 0 (items_view l.items);
  count : length l.list + items_len (items_view l.left) ≡ items_len (items_view l.items);
}

abbrev pub decreases-loop-item : goal.decreases-loop-item
decreases-loop-item g l = items_len (items_view l.left)
