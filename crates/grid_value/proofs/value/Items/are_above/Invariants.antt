use Rattle.std.proofs.Common.{◌≡◌, ◌+◌, ◌≤◌}
use Rattle.grid_value.specs.View.{items_view, items_len}
use Rattle.grid_value.proofs.value.Items.are_above.Given as goal

abbrev pub invariant-loop-left : goal.invariant-loop-left
invariant-loop-left l = (l.left + items_len (items_view l.self) ≡ l.most + items_len (items_view l.items)) × (l.left ≤ l.most)

abbrev pub decreases-loop-left : goal.decreases-loop-left
decreases-loop-left l = l.left
