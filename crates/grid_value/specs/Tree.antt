-- Trees, and how their nodes grow while they are read.
use Rattle.std.specs.Prelude.{◌≡◌, List, ◌∷◌, ◌++◌, length, Option, Some}
use Rattle.json.specs.Token.{Token}
use Rattle.serde_json.specs.Data.{Data, Items, Members, no_members}
use Rattle.grid_value.specs.declared.node.Node.{Node}
use Rattle.grid_value.specs.declared.read.Tree.{Tree}
use Rattle.grid_value.specs.View.{inside, data_of, data_at, items_of, listed_of, put_each}

abbrev pub tree_view : Tree → Data
tree_view tree = data_at tree.nodes.items

-- one value is appended, whose data and tokens behind it were read
pub record Grows (old new : List Node) (found : Option (Data × List Token)) (behind : List Token) : Type 0 where
  pub head : Node
  pub body : List Node
  pub same : new ≡ old ++ head ∷ body
  pub whole : inside head ≡ length body
  pub is : found ≡ Some (data_of head body, behind)

-- the items of an array are appended
pub record GrowsItems (old new : List Node) (found : Option (Items × List Token)) (behind : List Token) : Type 0 where
  pub body : List Node
  pub same : new ≡ old ++ body
  pub is : found ≡ Some (items_of body, behind)

-- the members of an object are appended
pub record GrowsMembers (old new : List Node) (found : Option (Members × List Token)) (behind : List Token) : Type 0 where
  pub body : List Node
  pub same : new ≡ old ++ body
  pub is : found ≡ Some (put_each (listed_of body) no_members, behind)
