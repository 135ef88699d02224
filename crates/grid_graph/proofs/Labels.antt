-- Labels of a graph: for each node the least one that is joined to it.
use Rattle.std.proofs.Common.{true, false, inl, inr, ◌≡◌, sym, ◌∙◌, ℕ, ◌<◌, List, length, get_or, arith}
use Rattle.std.specs.Prelude.{eqb}
use Rattle.std.proofs.lemmas.Bool.{both_ways, cases_Bool, eqb-true, eq-eqb}
use Rattle.grid_lemmas.proofs.Bools.{same_test}
use Rattle.grid_graph.specs.Joined.{is_least}
use Rattle.grid_graph.specs.Components.{places}
use Rattle.grid_graph.specs.Graph.{Graph, joined_in, least_joined, labels_of}
use Rattle.grid_graph.proofs.Places.{AreBelow, In_places}
use Rattle.grid_graph.proofs.Least.{least_is_least, least_below, least_le, least_same, joined_from_least}
use Rattle.grid_graph.proofs.GroupLeaders.{none_joined, least_apart_from}
use Rattle.grid_graph.proofs.Counts.{at_place, long_places}

pub labels_long : (net : Graph) (labels : List ℕ) → labels ≡ labels_of net → length labels ≡ net.nodes
unfolding labels_of
labels_long net labels e = long_places net.nodes (least_joined net) labels e

pub label_at : (net : Graph) (labels : List ℕ) (a : ℕ) → labels ≡ labels_of net → a < net.nodes → get_or labels a 0 ≡ least_joined net a
unfolding labels_of
label_at net labels a e lt = at_place net.nodes (least_joined net) labels a e lt

pub label_below : (net : Graph) (labels : List ℕ) (a : ℕ) → AreBelow net.nodes net.pairs → labels ≡ labels_of net → a < length labels → get_or labels a 0 < net.nodes
label_below net labels a fit e lt =
    let less : a < net.nodes = omega (arith, lt, labels_long net labels e) in
    rw (label_at net labels a e less) (least_below net a fit less)

-- nodes of one label are just those that are joined
pub same_label : (net : Graph) (labels : List ℕ) (a b : ℕ) → AreBelow net.nodes net.pairs → labels ≡ labels_of net → a < net.nodes → b < net.nodes → eqb (get_or labels a 0) (get_or labels b 0) ≡ joined_in net a b
same_label net labels a b fit e lt less =
    let here : get_or labels a 0 ≡ least_joined net a = label_at net labels a e lt in
    let there : get_or labels b 0 ≡ least_joined net b = label_at net labels b e less in
    same_test _ _
    (λ h. joined_from_least net a b fit lt less (sym here ∙ eqb-true (get_or labels a 0) (get_or labels b 0) h ∙ there))
    (λ h. eq-eqb (get_or labels a 0) (get_or labels b 0) (here ∙ least_same net a b fit lt h ∙ sym there))

-- ---- the least nodes are those with their own label

pub least_true : (net : Graph) (a : ℕ) → AreBelow net.nodes net.pairs → a < net.nodes → least_joined net a ≡ a → is_least (places net.nodes) net.pairs a ≡ true
unfolding joined_in
least_true net a fit lt leads = none_joined (places net.nodes) net.pairs a (λ c i j. omega (arith, (least_is_least net a fit lt).least c j, leads))

pub least_false : (net : Graph) (a : ℕ) → AreBelow net.nodes net.pairs → a < net.nodes → (least_joined net a ≡ a → ⊥) → is_least (places net.nodes) net.pairs a ≡ false
unfolding joined_in
least_false net a fit lt other =
    let l : ℕ = least_joined net a in
    let less : l < a = omega (arith, least_le net a fit lt, other) in
    elim (cases_Bool (is_least (places net.nodes) net.pairs a)) [
      | inl h ↦ absurd (both_ways _ (least_apart_from (places net.nodes) net.pairs a l h (In_places l net.nodes (omega (arith, less, lt))) less) (least_is_least net a fit lt).reached)
      | inr h ↦ h
    ]
