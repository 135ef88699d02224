-- What one label per index tells of the nodes.
use Rattle.std.proofs.Common.{◌≡◌, refl, sym, ap, ◌∙◌, ℕ, zero, suc, ◌<◌, ◌≤◌, true, false, not, ◌&&◌, List, [], ◌∷◌, length, get_or, inl, inr, arith}
use Rattle.std.specs.Prelude.{eqb, nat_lt, map, filter}
use Rattle.std.specs.List.{list_any}
use Rattle.std.proofs.lemmas.Bool.{and_parts, and_from, cases_lt, eqb-true, eq-eqb, lt-ltb, ltb-true, both_ways, not-true, not_from_false, false_from_ne_true}
use Rattle.std.proofs.lemmas.List.FromFn.{length-range_with_len}
use Rattle.grid_lemmas.proofs.Bools.{same_test}
use Rattle.grid_graph.specs.Joined.{within, joined, is_least, least_nodes, group_of}
use Rattle.grid_graph.specs.Components.{places}
use Rattle.grid_graph.specs.Graph.{EndsBelow, joined_in, least_joined, labels_of}
use Rattle.grid_graph.proofs.Reach.{In, any_from, any_of, some_member}
use Rattle.grid_graph.proofs.RenamedNodes.{EndsIn, within_renamed, renamed}
use Rattle.grid_graph.proofs.Places.{AreBelow, In_places}
use Rattle.grid_graph.proofs.Below.{pairs_below}
use Rattle.grid_graph.proofs.Counts.{at_place, long_places}
use Rattle.grid_graph.proofs.Least.{least_is_least, least_below, least_le, least_same, leads_itself as least_leads, joined_from_least, n_refl, In_filter}
use Rattle.grid_level.specs.Passing.{is_rising}
use Rattle.grid_groups.specs.Labels.{index_in, pair_by_index, graph_among, places_with, items_at, leading, label_of}
use Rattle.grid_groups.proofs.Lists.{items_passing, first_item, In_filtered, get_or_any, passed_all, passed_below, In_get}
use Rattle.grid_groups.proofs.Indices.{rises, index_below, at_index, index_apart, index_at}

pub ends_below : (ns : List ℕ) (pairs : List (ℕ × ℕ)) → EndsIn ns pairs → EndsBelow (map (pair_by_index ns) pairs) (length ns)
unfolding pair_by_index
ends_below ns [] ends k d lt = absurd (omega arith)
ends_below ns (p ∷ ps) ends zero d lt = (index_below p.0 ns ends.0, index_below p.1 ns ends.1)
ends_below ns (p ∷ ps) ends (suc k) d lt = ends_below ns ps ends.2 k d (omega arith)

module _ (ns : List ℕ) (pairs : List (ℕ × ℕ)) (rise : is_rising ns ≡ true) (ends : EndsIn ns pairs) where
  -- indices are joined as their nodes are
  pub joined_by_index : (i j : ℕ) → i < length ns → j < length ns → joined_in (graph_among ns pairs) i j ≡ joined ns pairs (get_or ns i 0) (get_or ns j 0)
  unfolding joined_in joined graph_among pair_by_index places
  joined_by_index i j lt less =
      let ren = renamed (index_in ns) pairs in
      ap (λ k. within ren k i j) (length-range_with_len 0 (length ns))
      ∙ ap (λ z. within ren (length ns) z j) (sym (index_at ns i rise lt))
      ∙ ap (λ z. within ren (length ns) (index_in ns (get_or ns i 0)) z) (sym (index_at ns j rise less))
      ∙ within_renamed (index_in ns) ns (index_apart ns) pairs (length ns) (get_or ns i 0) (get_or ns j 0) (In_get ns i lt) (In_get ns j less) ends

  pub below : AreBelow (length ns) (map (pair_by_index ns) pairs)
  below = pairs_below (length ns) (map (pair_by_index ns) pairs) (ends_below ns pairs ends)

  -- ---- one label per index

  module _ (labels : List ℕ) (labelled : labels ≡ labels_of (graph_among ns pairs)) where
    pub labels_long : length labels ≡ length ns
    unfolding labels_of graph_among
    labels_long = long_places (length ns) (least_joined (graph_among ns pairs)) labels labelled

    label_is : (k : ℕ) → k < length ns → get_or labels k 0 ≡ least_joined (graph_among ns pairs) k
    unfolding labels_of graph_among
    label_is k lt = at_place (length ns) (least_joined (graph_among ns pairs)) labels k labelled lt

    pub label_below : (k : ℕ) → k < length ns → get_or labels k 0 < length ns
    unfolding graph_among
    label_below k lt = omega (arith, label_is k lt, least_below (graph_among ns pairs) k below lt)

    -- a label is no greater than its index, and its own label
    pub label_rooted : (k : ℕ) → k < length ns → (get_or labels k 0 ≤ k) × (get_or labels (get_or labels k 0) 0 ≡ get_or labels k 0)
    unfolding graph_among
    label_rooted k lt =
        let net = graph_among ns pairs in (
          omega (arith, label_is k lt, least_le net k below lt),
          label_is (get_or labels k 0) (label_below k lt) ∙ least_leads net k (get_or labels k 0) below lt (sym (label_is k lt)),
        )

    -- two indices have one label where their nodes are joined
    pub same_label : (l k : ℕ) → l < length ns → k < length ns → eqb (get_or labels k 0) (get_or labels l 0) ≡ joined ns pairs (get_or ns l 0) (get_or ns k 0)
    unfolding graph_among
    same_label l k lt less =
        same_test (eqb (get_or labels k 0) (get_or labels l 0)) (joined_in (graph_among ns pairs) l k)
        (λ h. joined_from_least (graph_among ns pairs) l k below lt less (sym (label_is l lt) ∙ sym (eqb-true (get_or labels k 0) (get_or labels l 0) h) ∙ label_is k less))
        (λ h. eq-eqb (get_or labels k 0) (get_or labels l 0) (label_is k less ∙ sym (least_same (graph_among ns pairs) l k below lt h) ∙ sym (label_is l lt)))
        ∙ joined_by_index l k lt less

    -- an index has the label of a leader where its node is joined to that one's
    pub with_label : (l k : ℕ) → l < length ns → get_or labels l 0 ≡ l → k < length ns → eqb (get_or labels k 0) l ≡ joined ns pairs (get_or ns l 0) (get_or ns k 0)
    with_label l k lt leads less = ap (eqb (get_or labels k 0)) (sym leads) ∙ same_label l k lt less

    -- the nodes with the label of a leader are those joined to it
    pub group_items : (l : ℕ) → l < length ns → get_or labels l 0 ≡ l → items_at ns (places_with labels l) ≡ group_of ns pairs (get_or ns l 0)
    unfolding places_with group_of
    group_items l lt leads =
        items_passing ns (joined ns pairs (get_or ns l 0)) (λ k. eqb (get_or labels k 0) l) (length labels) labels_long
        (λ k d less. with_label l k lt leads less ∙ ap (joined ns pairs (get_or ns l 0)) (get_or_any ns k 0 d less))

    -- a node has the label of a leader where it is among those joined to it
    pub placed_label : (l n : ℕ) → l < length ns → get_or labels l 0 ≡ l → In n ns → eqb (label_of ns labels n) l ≡ list_any (eqb n) (group_of ns pairs (get_or ns l 0))
    unfolding label_of group_of
    placed_label l n lt leads i =
        with_label l (index_in ns n) lt leads (index_below n ns i)
        ∙ ap (joined ns pairs (get_or ns l 0)) (at_index n ns i)
        ∙ sym (In_filtered (joined ns pairs (get_or ns l 0)) n ns i)

    lesser : (k : ℕ) → k < length ns → least_joined (graph_among ns pairs) k < k → list_any (λ b. nat_lt b (get_or ns k 0) && joined ns pairs (get_or ns k 0) b) ns ≡ true
    unfolding graph_among
    lesser k lt less =
        let m = least_joined (graph_among ns pairs) k in
        let in_range : m < length ns = least_below (graph_among ns pairs) k below lt in
        any_of (λ b. nat_lt b (get_or ns k 0) && joined ns pairs (get_or ns k 0) b) ns (get_or ns m 0) (In_get ns m in_range)
        (and_from (nat_lt (get_or ns m 0) (get_or ns k 0)) (joined ns pairs (get_or ns k 0) (get_or ns m 0))
        (lt-ltb (get_or ns m 0) (get_or ns k 0) (rises ns m k rise less lt))
        (sym (joined_by_index k m lt in_range) ∙ (least_is_least (graph_among ns pairs) k below lt).reached))

    not_lesser : (k : ℕ) → k < length ns → least_joined (graph_among ns pairs) k ≡ k → list_any (λ b. nat_lt b (get_or ns k 0) && joined ns pairs (get_or ns k 0) b) ns ≡ false
    unfolding graph_among
    not_lesser k lt own = false_from_ne_true _ (λ h.
        let found = any_from (λ b. nat_lt b (get_or ns k 0) && joined ns pairs (get_or ns k 0) b) ns h in
        let b = found.0 in
        let j = index_in ns b in
        let in_range : j < length ns = index_below b ns found.1 in
        let at : get_or ns j 0 ≡ b = at_index b ns found.1 in
        let parts = and_parts (nat_lt b (get_or ns k 0)) (joined ns pairs (get_or ns k 0) b) found.2 in
        let less : b < get_or ns k 0 = ltb-true b (get_or ns k 0) parts.0 in
        let reached : joined_in (graph_among ns pairs) k j ≡ true = joined_by_index k j lt in_range ∙ ap (joined ns pairs (get_or ns k 0)) at ∙ parts.1 in
        let least : least_joined (graph_among ns pairs) k ≤ j = (least_is_least (graph_among ns pairs) k below lt).least j reached in
        elim (cases_lt k j) [
          | inl g ↦ (let over = rises ns k j rise g in_range in absurd (omega (arith, over, at, less)))
          | inr g ↦ (let same : j ≡ k = omega (arith, g, least, own) in
              let twice : get_or ns j 0 ≡ get_or ns k 0 = ap (λ z. get_or ns z 0) same in
              absurd (omega (arith, twice, at, less)))
        ])

    -- an index is its own label where no lesser node is joined to its node
    pub leads_itself : (k : ℕ) → k < length ns → eqb (get_or labels k 0) k ≡ is_least ns pairs (get_or ns k 0)
    unfolding is_least graph_among
    leads_itself k lt = same_test (eqb (get_or labels k 0) k) (not (list_any (λ b. nat_lt b (get_or ns k 0) && joined ns pairs (get_or ns k 0) b) ns))
        (λ h. not_from_false _ (not_lesser k lt (sym (label_is k lt) ∙ eqb-true (get_or labels k 0) k h)))
        (λ h. elim (cases_lt (least_joined (graph_among ns pairs) k) k) [
          | inl g ↦ absurd (both_ways _ (not-true _ h) (lesser k lt g))
          | inr g ↦ eq-eqb (get_or labels k 0) k (let up = least_le (graph_among ns pairs) k below lt in let is = label_is k lt in omega (arith, up, is, g))
        ])

    -- the nodes of the indices that are their own labels are the least of the groups
    pub leading_items : items_at ns (leading labels) ≡ least_nodes ns pairs
    unfolding leading least_nodes
    leading_items =
        items_passing ns (is_least ns pairs) (λ k. eqb (get_or labels k 0) k) (length labels) labels_long
        (λ k d lt. leads_itself k lt ∙ ap (is_least ns pairs) (get_or_any ns k 0 d lt))

    pub leading_is : (i d : ℕ) → i < length (leading labels) → (get_or (leading labels) i d < length ns) × (get_or labels (get_or (leading labels) i d) 0 ≡ get_or (leading labels) i d)
    unfolding leading
    leading_is i d lt = (
      let r = passed_below (λ k. eqb (get_or labels k 0) k) (length labels) i d lt in omega (arith, r, labels_long),
      passed_all (λ k. get_or labels k 0 ≡ k) (λ k. eqb (get_or labels k 0) k) (places (length labels)) (λ x h. eqb-true (get_or labels x 0) x h) i d lt,
    )

    -- the least node joined to a node
    pub leader_is : (n : ℕ) → In n ns → get_or ns (label_of ns labels n) 0 ≡ get_or (group_of ns pairs n) 0 0
    unfolding label_of graph_among least_joined group_of joined_in joined
    leader_is n i =
        let j = index_in ns n in
        let lt : j < length ns = index_below n ns i in
        let ks = filter (joined_in (graph_among ns pairs) j) (places (length ns)) in
        let inside : In j ks = In_filter (joined_in (graph_among ns pairs) j) j (places (length ns)) (In_places j (length ns) lt) (n_refl (graph_among ns pairs) j below) in
        ap (λ k. get_or ns k 0) (label_is j lt)
        ∙ sym (first_item ns ks (some_member j ks inside) (least_below (graph_among ns pairs) j below lt))
        ∙ ap (λ z. get_or z 0 0)
        (items_passing ns (joined ns pairs (get_or ns j 0)) (joined_in (graph_among ns pairs) j) (length ns) refl
        (λ k d less. joined_by_index j k lt less ∙ ap (joined ns pairs (get_or ns j 0)) (get_or_any ns k 0 d less)))
        ∙ ap (λ z. get_or (filter (joined ns pairs z) ns) 0 0) (at_index n ns i)
