use Rattle.std.proofs.Common.{◌≡◌, ℕ, ◌+◌, ◌*◌, ◌≤◌, List, ◌++◌, length}
use Rattle.json.specs.Json.{items, members, value, parse_map}
use Rattle.serde_json.specs.Data.{Items, no_members}
use Rattle.serde_json.specs.Read.{of_items, of_members, converted}
use Rattle.grid_value.specs.declared.node.Node.{Node}
use Rattle.grid_value.specs.View.{put_each, listed_of}
use Rattle.grid_value.proofs.NodeSpellings.{SpellsItems}
use Rattle.grid_value.proofs.read.+read.Given as goal

abbrev pub decreases-read : goal.decreases-read
decreases-read l = 3 * l.depth + 1

abbrev pub decreases-read_array : goal.decreases-read_array
decreases-read_array l = 3 * l.depth

abbrev pub decreases-read_object : goal.decreases-read_object
decreases-read_object l = 3 * l.depth

abbrev pub decreases-read_items : goal.decreases-read_items
decreases-read_items l = 3 * l.depth + 2

abbrev pub decreases-read_members : goal.decreases-read_members
decreases-read_members l = 3 * l.depth + 2

abbrev pub invariant-read_items-items : goal.invariant-read_items-items
invariant-read_items-items l = record {
  n : ℕ;
  enough : length l.reader ≤ n;
  body : List Node;
  same : l.nodes.items ≡ l.initial.nodes.items ++ body;
  front : Items → Items;
  spelled : SpellsItems body front;
  read : converted of_items (items (value l.depth) (length l.initial.reader) l.initial.reader) ≡ parse_map front (converted of_items (items (value l.depth) n l.reader));
  shorter : length l.reader ≤ length l.initial.reader;
}

abbrev pub decreases-read_items-items : goal.decreases-read_items-items
decreases-read_items-items l = length l.reader

abbrev pub invariant-read_members-members : goal.invariant-read_members-members
invariant-read_members-members l = record {
  n : ℕ;
  enough : length l.reader ≤ n;
  body : List Node;
  same : l.nodes.items ≡ l.initial.nodes.items ++ body;
  read : converted (λ ms. of_members ms no_members) (members (value l.depth) (length l.initial.reader) l.initial.reader) ≡ converted (λ ms. of_members ms (put_each (listed_of body) no_members)) (members (value l.depth) n l.reader);
  shorter : length l.reader ≤ length l.initial.reader;
}

abbrev pub decreases-read_members-members : goal.decreases-read_members-members
decreases-read_members-members l = length l.reader
