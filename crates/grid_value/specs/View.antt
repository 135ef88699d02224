-- The data that nodes stand for, as `serde_json` has it.
use Rattle.std.specs.Prelude.{◌≡◌, ℕ, zero, suc, List, [], ◌∷◌, ◌++◌, take, drop, reverse, length}
use Rattle.serde_json.specs.Data.{Num, unsigned, negative, float, Data, null, boolean, number, string, array, object, Items, no_items, item, Members, no_members, put}
use Rattle.grid_value.specs.declared.number.Number.{Number}
use Rattle.grid_value.specs.declared.number.Number.TheVariants as numbers
use Rattle.grid_value.specs.declared.node.Node.{Node}
use Rattle.grid_value.specs.declared.node.Node.TheVariants as nodes
use Rattle.grid_value.specs.declared.value.Value.{Value}
use Rattle.grid_value.specs.declared.value.Items.{Items as ItemsLeft}
use Rattle.grid_value.specs.declared.value.Members.{Members as MembersLeft}

abbrev pub number_view : Number → Num
number_view (numbers.Unsigned n) = unsigned n
number_view (numbers.Negative z) = negative z
number_view (numbers.Float x) = float x

-- members as they are written
abbrev pub Listed : Type 0
Listed = List (List ℕ × Data)

-- these members put one after the other, so that the last of a name stays
abbrev pub put_each : Listed → Members → Members
put_each [] found = found
put_each (m ∷ ms) found = put_each ms (put m.0 m.1 found)

-- how many nodes behind this one belong to it
abbrev pub inside : Node → ℕ
inside nodes.Null = 0
inside (nodes.Bool b) = 0
inside (nodes.Number x) = 0
inside (nodes.Text s) = 0
inside (nodes.Array n) = n
inside (nodes.Object n) = n
inside (nodes.Name count s) = 0

-- the name that a node is
abbrev pub name_of : Node → List ℕ
name_of nodes.Null = []
name_of (nodes.Bool b) = []
name_of (nodes.Number x) = []
name_of (nodes.Text s) = []
name_of (nodes.Array n) = []
name_of (nodes.Object n) = []
name_of (nodes.Name count s) = s.now

-- how many nodes before a name are its value
abbrev pub before : Node → ℕ
before nodes.Null = 0
before (nodes.Bool b) = 0
before (nodes.Number x) = 0
before (nodes.Text s) = 0
before (nodes.Array n) = 0
before (nodes.Object n) = 0
before (nodes.Name count s) = count

-- the items and the members that nodes spell one after the other
abbrev pub Spelling : Type 0
Spelling = (List Node → Items) × (List Node → Listed)

-- a node with those that belong to it
abbrev pub data_by : Spelling → Node → List Node → Data
data_by spelling nodes.Null body = null
data_by spelling (nodes.Bool b) body = boolean b
data_by spelling (nodes.Number x) body = number (number_view x)
data_by spelling (nodes.Text s) body = string s.now
data_by spelling (nodes.Array n) body = array (spelling.0 body)
data_by spelling (nodes.Object n) body = object (put_each (spelling.1 body) no_members)
data_by spelling (nodes.Name count s) body = null

-- the value that nodes are
abbrev pub value_by : Spelling → List Node → Data
value_by spelling [] = null
value_by spelling (n ∷ ns) = data_by spelling n ns

abbrev pub items_by : Spelling → List Node → Items
items_by spelling [] = no_items
items_by spelling (n ∷ ns) = item (data_by spelling n (take (inside n) ns)) (spelling.0 (drop (inside n) ns))

-- the last node comes first: a name, and then its value from the back
abbrev pub back_by : Spelling → List Node → Listed
back_by spelling [] = []
back_by spelling (k ∷ ns) = spelling.1 (reverse (drop (before k) ns)) ++ (name_of k, value_by spelling (reverse (take (before k) ns))) ∷ []

abbrev pub listed_by : Spelling → List Node → Listed
listed_by spelling ns = back_by spelling (reverse ns)

-- The number bounds the turns. The count of the nodes is always enough.
unfoldable pub spelling : ℕ → Spelling
spelling zero = (λ ns. no_items, λ ns. [])
spelling (suc turns) = (items_by (spelling turns), listed_by (spelling turns))

unfoldable pub items_of : List Node → Items
unfolding spelling
items_of ns = (spelling (length ns)).0 ns

unfoldable pub listed_of : List Node → Listed
unfolding spelling
listed_of ns = (spelling (length ns)).1 ns

abbrev pub data_of : Node → List Node → Data
data_of = data_by (items_of, listed_of)

abbrev pub data_at : List Node → Data
data_at = value_by (items_of, listed_of)

abbrev pub view : Value → Data
view v = data_of v.head v.inside.now

abbrev pub items_view : ItemsLeft → Items
items_view items = items_of items.nodes.now

abbrev pub listed : MembersLeft → Listed
listed members = listed_of members.nodes.now

abbrev pub members_view : MembersLeft → Members
members_view members = put_each (listed members) no_members

-- how many items there are
abbrev pub items_len : Items → ℕ
items_len no_items = 0
items_len (item d ds) = suc (items_len ds)

-- the value and the rest are what the nodes are cut into
abbrev pub First : List Node → Value → List Node → Type 0
First [] v rest = ⊥
First (n ∷ ns) v rest = (v.head ≡ n) × (v.inside.now ≡ take (inside n) ns) × (rest ≡ drop (inside n) ns)
