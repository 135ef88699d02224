-- The numbers that are counted level by level are the places of the network's buses.
use Rattle.std.proofs.Common.{◌≡◌, refl, sym, ap, ◌∙◌, ℕ, ℤ, pos, negsuc, ◌+◌, ◌<◌, Bool, false, ◌&&◌, List, [], ◌∷◌, length, get_or, arith, inl, inr, Option, Some, None}
use Rattle.std.specs.Prelude.{eqb, map, filter, flat_map, position, slice_get, option_and_then}
use Rattle.std.specs.List.{list_any, enumerate_from, sum_by}
use Rattle.std.specs.Option.{option_map}
use Rattle.std.proofs.lemmas.Bool.{cases_Bool, both_ways}
use Rattle.std.proofs.lemmas.List.{take_all, length-map, get_or-map}
use Rattle.std.proofs.lemmas.List.FromFn.{length-enumerate_from}
use Rattle.std.proofs.lemmas.List.Elements.{All-nil, All-cons, All-append}
use Rattle.grid_lemmas.proofs.Lists.{none_past, position_map}
use Rattle.grid_graph.specs.Joined.{joined, group_of}
use Rattle.grid_graph.specs.Graph.{EndsBelow}
use Rattle.grid_graph.proofs.Reach.{In}
use Rattle.grid_level.specs.VoltageLevel.{VoltageLevel}
use Rattle.grid_level.specs.Passing.{nodes, bus, passing, positioned}
use Rattle.grid_groups.specs.Groups.{group_under}
use Rattle.grid_groups.specs.Labels.{index_in}
use Rattle.grid_groups.proofs.Indices.{among_In, index_is_first, index_below, at_index}
use Rattle.grid_groups.proofs.Lists.{filter_In}
use Rattle.grid_groups.proofs.PassingEdges.{nodes-positioned}
use Rattle.grid_structure.specs.declared.End.{End}
use Rattle.grid_structure.specs.declared.NamedBranch.{NamedBranch}
use Rattle.grid_structure.specs.Network.{Network}
use Rattle.grid_structure.specs.Sites.{levels, branches, branch_ends, find_level}
use Rattle.grid_structure.proofs.Places.{position_found, none_position}
use Rattle.grid_structure.proofs.Found.{level_below}
use Rattle.grid_busview.specs.Views.{record_watts, bus_of, bus_view_of, bus_leasts, bus_place, node_buses_of}
use Rattle.grid_busview.proofs.LabelViews.{retained_ignored}
use Rattle.grid_states.specs.Rows.{row_at}
use Rattle.grid_islands.specs.Islands.{NetworkBus, buses_in, buses_at, network_buses, holds, bus_at, pair_between, pairs_among, branch_pairs, bus_pairs}
use Rattle.grid_islands.specs.Numbering.{standing, bus_count, buses_before, counted_from, node_numbers, number_of_node, number_of_end, pairs_of_branch}
use Rattle.grid_islands.proofs.Blocks.{any_none, position_in, blocks_long}
use Rattle.grid_islands.proofs.LevelNumbers.{level_at, level_within}

-- ---- the buses of one level

pub buses_as : (level : VoltageLevel) (opened retained : List Bool) → buses_in level opened retained ≡ map (bus_of (positioned level opened) (record_watts level)) (bus_leasts (positioned level opened))
unfolding buses_in bus_view_of bus_leasts
buses_as level opened retained = ap (λ v. v.buses) (retained_ignored level opened retained (record_watts level))

pub counted_as : (opened retained : List (List Bool)) (at : ℕ × VoltageLevel) → length (buses_in at.1 (row_at opened at.0) (row_at retained at.0)) ≡ bus_count opened at
unfolding bus_count standing
counted_as opened retained at =
    let here = positioned at.1 (row_at opened at.0) in
    ap length (buses_as at.1 (row_at opened at.0) (row_at retained at.0)) ∙ length-map (bus_leasts here) (bus_of here (record_watts at.1))

-- ---- the bus of a node

no_node : (level : VoltageLevel) (n : ℕ) → list_any (eqb n) (nodes level) ≡ false → bus_place level n ≡ None
unfolding bus_place group_under group_of
no_node level n e =
    none_position (λ least. list_any (eqb n) (group_under bus level least)) (bus_leasts level)
    (any_none (λ least. list_any (eqb n) (group_under bus level least)) (bus_leasts level) (λ least.
    elim (cases_Bool (list_any (eqb n) (filter (joined (nodes level) (passing bus level) least) (nodes level)))) [
      | inl h ↦ absurd (both_ways _ e (filter_In (joined (nodes level) (passing bus level) least) n (nodes level) h))
      | inr h ↦ h
    ]))

module _ (level : VoltageLevel) (opened retained : List Bool) (first : ℕ) where
  abbrev pub here : VoltageLevel
  here = positioned level opened

  abbrev pub row : List (Option ℕ)
  row = counted_from first (node_buses_of here).places

  -- what the row has for a node that the level has
  row_at_node : (n : ℕ) → In n (nodes level) → get_or row (index_in (nodes level) n) None ≡ option_map (λ p. first + p) (bus_place here n)
  unfolding counted_from node_buses_of
  row_at_node n i =
      let ns = nodes (positioned level opened) in
      let same : ns ≡ nodes level = nodes-positioned level opened in
      let k = index_in (nodes level) n in
      let lt : k < length ns = omega (arith, index_below n (nodes level) i, ap length same) in
      get_or-map (option_map (λ p. first + p)) (map (bus_place (positioned level opened)) ns) k None None (omega (arith, lt, length-map ns (bus_place (positioned level opened))))
      ∙ ap (option_map (λ p. first + p)) (get_or-map (bus_place (positioned level opened)) ns k 0 None lt ∙ ap (bus_place (positioned level opened)) (ap (λ z. get_or z k 0) same ∙ at_index n (nodes level) i))

  number_there : (n : ℕ) → In n (nodes level) → number_of_node (nodes level) row (pos n) ≡ option_map (λ p. first + p) (bus_place here n)
  unfolding number_of_node
  number_there n i = rw (index_is_first n (nodes level) i) (row_at_node n i)

  number_not_there : (n : ℕ) → list_any (eqb n) (nodes level) ≡ false → number_of_node (nodes level) row (pos n) ≡ option_map (λ p. first + p) (bus_place here n)
  unfolding number_of_node
  number_not_there n e =
      let other : list_any (λ m. eqb m n) (nodes level) ≡ false = elim (cases_Bool (list_any (λ m. eqb m n) (nodes level))) [
        | inl h ↦ absurd (both_ways _ e (among_In n (nodes level) h))
        | inr h ↦ h
      ] in
      let none : bus_place (positioned level opened) n ≡ None = no_node (positioned level opened) n (ap (list_any (eqb n)) (nodes-positioned level opened) ∙ e) in
      rw (none_position (λ m. eqb m n) (nodes level) other) (ap (option_map (λ p. first + p)) (sym none))

  -- the bus that holds a node, by the bus view
  held : (n : ℕ) → position (λ b. holds b.nodes (pos n)) (buses_in level opened retained) ≡ bus_place here n
  unfolding holds bus_place bus_of
  held n =
      ap (position (λ b. holds b.nodes (pos n))) (buses_as level opened retained)
      ∙ position_map (λ b. holds b.nodes (pos n)) (bus_of (positioned level opened) (record_watts level)) (bus_leasts (positioned level opened))

  pub number_as : (z : ℤ) → number_of_node (nodes level) row z ≡ option_map (λ p. first + p) (position (λ b. holds b.nodes z) (buses_in level opened retained))
  unfolding holds number_of_node
  number_as (pos n) = elim (cases_Bool (list_any (eqb n) (nodes level))) [
    | inl h ↦ number_there n h ∙ ap (option_map (λ p. first + p)) (sym (held n))
    | inr h ↦ number_not_there n h ∙ ap (option_map (λ p. first + p)) (sym (held n))
  ]
  number_as (negsuc n) =
      ap (option_map (λ p. first + p)) (sym (none_position (λ b. holds b.nodes (negsuc n)) (buses_in level opened retained) (any_none (λ b. holds b.nodes (negsuc n)) (buses_in level opened retained) (λ b. refl))))

-- ---- the bus of an end

module _ (net : Network) (opened retained : List (List Bool)) where
  abbrev pub all : List NetworkBus
  all = network_buses net opened retained

  abbrev pub all_rows : List (List (Option ℕ))
  all_rows = map (node_numbers opened (levels net)) (enumerate_from 0 (levels net))

  pub row_read : (k : ℕ) (level : VoltageLevel) → slice_get (levels net) k ≡ Some level → get_or all_rows k [] ≡ node_numbers opened (levels net) (k, level)
  row_read k level at =
      get_or-map (node_numbers opened (levels net)) (enumerate_from 0 (levels net)) k (k, level) [] (level_within (levels net) k level at)
      ∙ ap (node_numbers opened (levels net)) (level_at (levels net) k level (k, level) at)

  -- the number of an item of a level's list, among all
  pub place_as : (k : ℕ) (level : VoltageLevel) (z : ℤ) → slice_get (levels net) k ≡ Some level
      → position (λ b. eqb b.0 k && holds b.1.nodes z) all ≡ option_map (λ p. buses_before opened (levels net) k + p) (position (λ b. holds b.nodes z) (buses_in level (row_at opened k) (row_at retained k)))
  unfolding network_buses buses_at buses_before
  place_as k level z at =
      position_in (λ at. buses_in at.1 (row_at opened at.0) (row_at retained at.0)) (bus_count opened) (counted_as opened retained) 0 k k (λ b. holds b.nodes z) (levels net) level (omega arith) at

  end_at : (end : End) (k : ℕ) (level : VoltageLevel) → slice_get (levels net) k ≡ Some level
      → number_of_node (nodes level) (get_or all_rows k []) end.node ≡ position (λ b. eqb b.0 k && holds b.1.nodes end.node) all
  unfolding node_numbers standing
  end_at end k level at =
      ap (λ z. number_of_node (nodes level) z end.node) (row_read k level at)
      ∙ number_as level (row_at opened k) (row_at retained k) (buses_before opened (levels net) k) end.node
      ∙ sym (place_as k level end.node at)

  pub end_as : (end : End) → number_of_end net all_rows end ≡ bus_at net all end
  unfolding number_of_end bus_at
  end_as end = by (find_level net end.level) refl
    where
      got : (k : ℕ) (o : Option VoltageLevel) → k < length (levels net) → slice_get (levels net) k ≡ o
          → option_and_then (λ level. number_of_node (nodes level) (get_or all_rows k []) end.node) o ≡ position (λ b. eqb b.0 k && holds b.1.nodes end.node) all
      got k (Some level) lt e = end_at end k level e
      got k None lt e = absurd (none_past (levels net) k lt e)

      by : (o : Option ℕ) → find_level net end.level ≡ o
          → option_and_then (λ place. option_and_then (λ level. number_of_node (nodes level) (get_or all_rows place []) end.node) (slice_get (levels net) place)) o
          ≡ option_and_then (λ level. position (λ b. eqb b.0 level && holds b.1.nodes end.node) all) o
      by (Some k) e = got k (slice_get (levels net) k) (level_below net end.level k e) refl
      by None e = refl

  -- ---- pairs

  maps_alike : (f g : End → Option ℕ) (ends : List End) → ((end : End) → f end ≡ g end) → map f ends ≡ map g ends
  maps_alike f g [] h = refl
  maps_alike f g (end ∷ ends) h = rw (h end, maps_alike f g ends h) refl

  branch_as : (b : NamedBranch) → pairs_of_branch net all_rows b.shape ≡ branch_pairs net all b
  unfolding pairs_of_branch branch_pairs
  branch_as b = ap pairs_among (maps_alike (number_of_end net all_rows) (bus_at net all) (branch_ends b.shape) end_as)

  gathered_alike : (bs : List NamedBranch) → flat_map (λ b. pairs_of_branch net all_rows b.shape) bs ≡ flat_map (branch_pairs net all) bs
  gathered_alike [] = refl
  gathered_alike (b ∷ bs) = rw (branch_as b, gathered_alike bs) refl

  pub pairs_as : flat_map (λ b. pairs_of_branch net all_rows b.shape) (branches net) ≡ bus_pairs net all
  unfolding bus_pairs
  pairs_as = gathered_alike (branches net)

  -- ---- the pairs are of buses

  abbrev Below : Option ℕ → Type 0
  Below o = (k : ℕ) → o ≡ Some k → k < length all

  end_below : (end : End) → Below (bus_at net all end)
  unfolding bus_at
  end_below end k e = by (find_level net end.level) e
    where
      by : (o : Option ℕ) → option_and_then (λ level. position (λ b. eqb b.0 level && holds b.1.nodes end.node) all) o ≡ Some k → k < length all
      by (Some level) h = (position_found (λ b. eqb b.0 level && holds b.1.nodes end.node) all k h).0
      by None h = absurd (cc)

  abbrev OfBuses : ℕ × ℕ → Type 0
  OfBuses pair = (pair.0 < length all) × (pair.1 < length all)

  between_below : (a b : Option ℕ) → Below a → Below b → EndsBelow (pair_between a b) (length all)
  unfolding pair_between
  between_below None b f g = All-nil OfBuses
  between_below (Some x) None f g = All-nil OfBuses
  between_below (Some x) (Some y) f g = All-cons OfBuses (x, y) [] (f x refl, g y refl) (All-nil OfBuses)

  each_below : (a : Option ℕ) (ends : List End) → Below a → EndsBelow (flat_map (pair_between a) (map (bus_at net all) ends)) (length all)
  each_below a [] f = All-nil OfBuses
  each_below a (end ∷ ends) f =
      All-append OfBuses (pair_between a (bus_at net all end)) (flat_map (pair_between a) (map (bus_at net all) ends)) (between_below a (bus_at net all end) f (end_below end)) (each_below a ends f)

  among_below : (ends : List End) → EndsBelow (pairs_among (map (bus_at net all) ends)) (length all)
  unfolding pairs_among
  among_below [] = All-nil OfBuses
  among_below (end ∷ ends) =
      All-append OfBuses (flat_map (pair_between (bus_at net all end)) (map (bus_at net all) ends)) (pairs_among (map (bus_at net all) ends)) (each_below (bus_at net all end) ends (end_below end)) (among_below ends)

  of_branches : (bs : List NamedBranch) → EndsBelow (flat_map (branch_pairs net all) bs) (length all)
  unfolding branch_pairs
  of_branches [] = All-nil OfBuses
  of_branches (b ∷ bs) =
      All-append OfBuses (branch_pairs net all b) (flat_map (branch_pairs net all) bs) (among_below (branch_ends b.shape)) (of_branches bs)

  pub pairs_below : EndsBelow (bus_pairs net all) (length all)
  unfolding bus_pairs
  pairs_below = of_branches (branches net)

  pub all_long : length all ≡ buses_before opened (levels net) (length (levels net))
  unfolding network_buses buses_at buses_before
  all_long =
      blocks_long (λ at. buses_in at.1 (row_at opened at.0) (row_at retained at.0)) (bus_count opened) (counted_as opened retained) 0 (levels net)
      ∙ ap (sum_by (bus_count opened)) (sym (take_all (length (levels net)) (enumerate_from 0 (levels net)) (omega (arith, length-enumerate_from 0 (levels net)))))
