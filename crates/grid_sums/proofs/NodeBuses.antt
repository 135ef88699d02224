-- The bus of a node is the one that holds it.
use Rattle.std.proofs.Common.{◌≡◌, refl, sym, ap, ◌∙◌, subst, ℕ, zero, suc, ◌+◌, ◌<◌, Bool, true, false, List, length, get_or, arith, inl, inr, Option, Some, None}
use Rattle.std.specs.Prelude.{eqb, map, filter, position}
use Rattle.std.specs.List.{list_any}
use Rattle.std.specs.List.Sorted.{IsStrictlyIncreasing}
use Rattle.std.proofs.lemmas.Bool.{eqb-true, eq-eqb, cases_lt, both_ways, false≢true}
use Rattle.std.proofs.lemmas.List.{get_or-map}
use Rattle.std.proofs.lemmas.List.Kept.{IsStrictlyIncreasing-filter}
use Rattle.std.proofs.lemmas.List.Quantifiers.{position-Some}
use Rattle.grid_lemmas.proofs.Bools.{same_test}
use Rattle.grid_graph.specs.Joined.{is_least, least_nodes, group_of}
use Rattle.grid_graph.specs.Graph.{labels_of}
use Rattle.grid_graph.proofs.Reach.{In, any_of}
use Rattle.grid_graph.proofs.Least.{filter_In}
use Rattle.grid_graph.proofs.RenamedNodes.{EndsIn}
use Rattle.grid_level.specs.VoltageLevel.{VoltageLevel}
use Rattle.grid_level.specs.Passing.{nodes, bus, passing, positioned, is_rising}
use Rattle.grid_level.specs.Kept.{KeepsLimits}
use Rattle.grid_groups.specs.Groups.{group_under, leaders}
use Rattle.grid_groups.specs.Labels.{index_in, graph_among, label_of}
use Rattle.grid_groups.proofs.Bridge.{placed_label, leads_itself}
use Rattle.grid_groups.proofs.Indices.{rises, index_below, at_index}
use Rattle.grid_groups.proofs.Lists.{In_get}
use Rattle.grid_groups.proofs.Under.{Stands, bus_stands}
use Rattle.grid_structure.proofs.Places.{position_none}
use Rattle.grid_busview.specs.Views.{is_bus, bus_leasts, bus_place, node_buses_of}
use Rattle.grid_sums.specs.Feeding.{is_at, place_of}

-- ---- rising lists

increasing : (ns : List ℕ) → is_rising ns ≡ true → IsStrictlyIncreasing ns
increasing ns rise k lt = rises ns k (k + 1) rise (omega arith) lt

less_before : (xs : List ℕ) → IsStrictlyIncreasing xs → (i j : ℕ) → i < j → j < length xs → get_or xs i 0 < get_or xs j 0
less_before xs rise i zero lt inside = absurd (omega arith)
less_before xs rise i (suc j) lt inside =
    let next : get_or xs j 0 < get_or xs (j + 1) 0 = rise j (omega arith) in
    let same : j + 1 ≡ suc j = omega arith in
    let last : get_or xs j 0 < get_or xs (suc j) 0 = subst (λ z. get_or xs j 0 < get_or xs z 0) same next in
    elim (cases_lt i j) [
      | inl g ↦ (let before = less_before xs rise i j g (omega arith) in omega (arith, before, last))
      | inr g ↦ (let e : i ≡ j = omega (arith, g, lt) in subst (λ z. get_or xs z 0 < get_or xs (suc j) 0) (sym e) last)
    ]

-- ---- the first that passes, where just one passes

module _ (test : ℕ → Bool) (xs : List ℕ) (rise : IsStrictlyIncreasing xs) (one : (i j : ℕ) → i < length xs → j < length xs → test (get_or xs i 0) ≡ true → test (get_or xs j 0) ≡ true → get_or xs i 0 ≡ get_or xs j 0) where
  passes : (place : ℕ) (o : Option ℕ) → position test xs ≡ o → is_at place o ≡ true → test (get_or xs place 0) ≡ true
  passes place (Some k) found h =
      let here = position-Some test xs k 0 found in
      subst (λ z. test (get_or xs z 0) ≡ true) (eqb-true k place h) here.1
  passes place None found h = absurd (false≢true h)

  at_place : (place : ℕ) (o : Option ℕ) → position test xs ≡ o → place < length xs → test (get_or xs place 0) ≡ true → is_at place o ≡ true
  at_place place (Some k) found lt h =
      let here = position-Some test xs k 0 found in
      let same = one k place here.0 lt here.1 h in
      elim (cases_lt k place) [
        | inl g ↦ (let less = less_before xs rise k place g lt in absurd (omega (arith, less, same)))
        | inr g ↦ elim (cases_lt place k) [
          | inl f ↦ (let less = less_before xs rise place k f here.0 in absurd (omega (arith, less, same)))
          | inr f ↦ eq-eqb k place (omega (arith, f, g))
        ]
      ]
  at_place place None found lt h = absurd (both_ways (list_any test xs) (position_none test xs found) (any_of test xs (get_or xs place 0) (In_get xs place lt) h))

  pub held_at : (place : ℕ) → place < length xs → is_at place (position test xs) ≡ test (get_or xs place 0)
  held_at place lt = same_test (is_at place (position test xs)) (test (get_or xs place 0)) (passes place (position test xs) refl) (at_place place (position test xs) refl lt)

-- ---- a node is in one group at most

module _ (ns : List ℕ) (pairs : List (ℕ × ℕ)) (rise : is_rising ns ≡ true) (ends : EndsIn ns pairs) where
  abbrev labels : List ℕ
  labels = labels_of (graph_among ns pairs)

  -- the label of a node in the group of a least node is that one's index
  labelled : (a n : ℕ) → In n ns → In a (least_nodes ns pairs) → list_any (eqb n) (group_of ns pairs a) ≡ true → label_of ns labels n ≡ index_in ns a
  unfolding least_nodes
  labelled a n there led h =
      let found = filter_In (is_least ns pairs) a ns led in
      let l = index_in ns a in
      let lt = index_below a ns found.0 in
      let at = at_index a ns found.0 in
      let own = eqb-true (get_or labels l 0) l (leads_itself ns pairs rise ends labels refl l lt ∙ ap (is_least ns pairs) at ∙ found.1) in
      eqb-true (label_of ns labels n) l (placed_label ns pairs rise ends labels refl l n lt own there ∙ ap (λ z. list_any (eqb n) (group_of ns pairs z)) at ∙ h)

  pub one_group : (a b n : ℕ) → In n ns → In a (least_nodes ns pairs) → In b (least_nodes ns pairs) → list_any (eqb n) (group_of ns pairs a) ≡ true → list_any (eqb n) (group_of ns pairs b) ≡ true → a ≡ b
  unfolding least_nodes
  one_group a b n there first second h k =
      let x = (filter_In (is_least ns pairs) a ns first).0 in
      let y = (filter_In (is_least ns pairs) b ns second).0 in
      sym (at_index a ns x) ∙ ap (λ z. get_or ns z 0) (sym (labelled a n there first h) ∙ labelled b n there second k) ∙ at_index b ns y

-- ---- buses

module _ (level : VoltageLevel) (opened : List Bool) (keeps : KeepsLimits level) (e : length opened ≡ length level.switches) where
  abbrev here : VoltageLevel
  here = positioned level opened

  stands : Stands bus level here
  stands = bus_stands level opened keeps e

  leasts_rise : IsStrictlyIncreasing (bus_leasts here)
  unfolding bus_leasts leaders least_nodes
  leasts_rise =
      let first = subst IsStrictlyIncreasing (sym stands.same_nodes) (increasing (nodes level) keeps.nodes_rise) in
      IsStrictlyIncreasing-filter (is_bus here) (least_nodes (nodes here) (passing bus here)) (IsStrictlyIncreasing-filter (is_least (nodes here) (passing bus here)) (nodes here) first)

  least_in : (i : ℕ) → i < length (bus_leasts here) → In (get_or (bus_leasts here) i 0) (least_nodes (nodes level) (passing bus here))
  unfolding bus_leasts leaders
  least_in i lt =
      let leasts = filter (is_bus here) (least_nodes (nodes here) (passing bus here)) in
      subst (λ z. In (get_or leasts i 0) (least_nodes z (passing bus here))) stands.same_nodes
      (filter_In (is_bus here) (get_or leasts i 0) (least_nodes (nodes here) (passing bus here)) (In_get leasts i lt)).0

  -- a node's bus is at a place where the bus there holds it
  pub bus_holds : (node place : ℕ) → In node (nodes level) → place < length (bus_leasts here) → is_at place (bus_place here node) ≡ list_any (eqb node) (group_under bus here (get_or (bus_leasts here) place 0))
  unfolding bus_place group_under
  bus_holds node place there lt =
      let holds : ℕ → Bool = λ least. list_any (eqb node) (group_of (nodes here) (passing bus here) least) in
      held_at holds (bus_leasts here) leasts_rise
      (λ i j less more h k.
      one_group (nodes level) (passing bus here) keeps.nodes_rise stands.ends_in (get_or (bus_leasts here) i 0) (get_or (bus_leasts here) j 0) node there (least_in i less) (least_in j more)
      (ap (λ z. list_any (eqb node) (group_of z (passing bus here) (get_or (bus_leasts here) i 0))) (sym stands.same_nodes) ∙ h)
      (ap (λ z. list_any (eqb node) (group_of z (passing bus here) (get_or (bus_leasts here) j 0))) (sym stands.same_nodes) ∙ k))
      place lt

  -- by the list of places
  pub place_is : (places : List (Option ℕ)) (node : ℕ) → places ≡ (node_buses_of here).places → In node (nodes level) → place_of (nodes level) places node ≡ bus_place here node
  unfolding node_buses_of
  place_is places node found there =
      let ns = nodes level in
      let lt = index_below node ns there in
      ap (λ z. get_or z (index_in ns node) None) (found ∙ ap (map (bus_place here)) stands.same_nodes)
      ∙ get_or-map (bus_place here) ns (index_in ns node) 0 None lt
      ∙ ap (bus_place here) (at_index node ns there)
