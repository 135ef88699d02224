-- The indices of the nodes of terminals, which rise with the terminals.
use Rattle.std.proofs.Common.{◌≡◌, sym, ap, ◌∙◌, subst, ℕ, ◌+◌, ◌<◌, ◌≤◌, true, List, map, length, get_or, inl, inr, arith}
use Rattle.std.specs.Prelude.{IsTrue}
use Rattle.std.proofs.lemmas.Bool.{cases_lt}
use Rattle.std.proofs.lemmas.List.{get_or-map, length-map}
use Rattle.grid_graph.proofs.Reach.{In}
use Rattle.grid_level.specs.declared.Placed.{Placed}
use Rattle.grid_level.specs.VoltageLevel.{VoltageLevel}
use Rattle.grid_level.specs.Passing.{nodes, is_rising}
use Rattle.grid_level.specs.Kept.{KeepsLimits, among}
use Rattle.grid_groups.specs.Labels.{index_in, label_of, labels_placed}
use Rattle.grid_groups.proofs.Indices.{In_among, rises, index_below, at_index}
use Rattle.grid_groups.proofs.TerminalNodes.{placed_node}

index_rises : (ns : List ℕ) (a b : ℕ) → is_rising ns ≡ true → In a ns → In b ns → a < b → index_in ns a ≤ index_in ns b
index_rises ns a b rise i j lt = elim (cases_lt (index_in ns b) (index_in ns a)) [
  | inl g ↦ (let r = rises ns (index_in ns b) (index_in ns a) rise g (index_below a ns i) in absurd (omega (arith, r, at_index a ns i, at_index b ns j, lt)))
  | inr g ↦ g
]

module _ (level : VoltageLevel) (keeps : KeepsLimits level) (i : ℕ) where
  -- the next terminal's node stands behind
  pub next_index : (d e : Placed) → i + 1 < length level.placed → index_in (nodes level) (get_or level.placed i d).node ≤ index_in (nodes level) (get_or level.placed (i + 1) e).node
  next_index d e lt =
      let node : Placed → ℕ = λ p. p.node in
      let less : i < length level.placed = omega (arith, lt) in
      let r = rises (map node level.placed) i (i + 1) keeps.placed_rise (omega arith) (omega (arith, lt, length-map level.placed node)) in
      index_rises (nodes level) (get_or level.placed i d).node (get_or level.placed (i + 1) e).node keeps.nodes_rise (placed_node level keeps i d less) (placed_node level keeps (i + 1) e lt)
      (omega (arith, r, get_or-map node level.placed i d 0 less, get_or-map node level.placed (i + 1) e 0 lt))

  pub placed_below : (d : Placed) → i < length level.placed → index_in (nodes level) (get_or level.placed i d).node < length (nodes level)
  placed_below d lt = index_below (get_or level.placed i d).node (nodes level) (placed_node level keeps i d lt)

  -- a terminal's label is that of its node's index
  pub key_at : (labels : List ℕ) (d : Placed) → i < length level.placed → get_or (labels_placed level labels) i 0 ≡ get_or labels (index_in (nodes level) (get_or level.placed i d).node) 0
  unfolding labels_placed label_of
  key_at labels d lt = get_or-map (λ p. label_of (nodes level) labels p.node) level.placed i d 0 lt

-- the terminal at a place, as it is read, and the index of its node
module _ (level : VoltageLevel) (keeps : KeepsLimits level) (i : ℕ) (p : Placed) (lt : i < length level.placed) (item : p ≡ get_or level.placed i p) where
  pub node_among : IsTrue (among (nodes level) p.node)
  node_among = let P : Placed → Type 0 = λ z. IsTrue (among (nodes level) z.node) in subst P (sym item) (In_among (get_or level.placed i p).node (nodes level) (placed_node level keeps i p lt))

  pub node_from : (start : ℕ) → start ≤ index_in (nodes level) (get_or level.placed i p).node → start ≤ index_in (nodes level) p.node
  node_from start le = let P : Placed → Type 0 = λ z. start ≤ index_in (nodes level) z.node in subst P (sym item) le

  module _ (labels : List ℕ) (index : ℕ) (is : index ≡ index_in (nodes level) p.node) where
    pub index_inside : length labels ≡ length (nodes level) → index < length labels
    index_inside long = omega (arith, is, long, ap (λ z. index_in (nodes level) z.node) item, placed_below level keeps i p lt)

    pub key_is : get_or (labels_placed level labels) i 0 ≡ get_or labels index 0
    key_is = key_at level keeps i labels p lt ∙ ap (λ z. get_or labels z 0) (sym (is ∙ ap (λ z. index_in (nodes level) z.node) item))

    pub index_next : (d : Placed) → i + 1 < length level.placed → index ≤ index_in (nodes level) (get_or level.placed (i + 1) d).node
    index_next d less = omega (arith, is, ap (λ z. index_in (nodes level) z.node) item, next_index level keeps i p d less)

pub keys_long : (level : VoltageLevel) (labels : List ℕ) → length (labels_placed level labels) ≡ length level.placed
unfolding labels_placed
keys_long level labels = length-map level.placed (λ p. label_of (nodes level) labels p.node)
