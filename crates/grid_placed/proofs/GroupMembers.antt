-- What stands in the groups of a level in node/breaker form, and which groups are buses.
use Rattle.std.proofs.Common.{◌≡◌, refl, sym, ap, ◌∙◌, subst, ℕ, suc, ◌+◌, ◌<◌, ◌≤◌, Bool, true, false, cond, ◌&&◌, List, [], ◌∷◌, ◌++◌, length, get_or, arith}
use Rattle.std.specs.Prelude.{eqb, map, filter}
use Rattle.std.specs.List.{list_any, enumerate_from}
use Rattle.std.proofs.lemmas.Bool.{ne_eqb}
use Rattle.std.proofs.lemmas.List.Elements.{filter-append, All-get_or}
use Rattle.grid_graph.specs.Joined.{joined, group_of}
use Rattle.grid_graph.specs.Components.{places}
use Rattle.grid_graph.proofs.Reach.{In, In_here, In_there}
use Rattle.grid_graph.proofs.Places.{In_places}
use Rattle.grid_level.specs.declared.Placed.{Placed}
use Rattle.grid_level.specs.Passing.{bus, passing, placed_among}
use Rattle.grid_groups.specs.Groups.{group_under}
use Rattle.grid_groups.proofs.Lists.{In_filtered, get_or_any}
use Rattle.grid_placed.specs.Places.{Outlet, PlacedLevel, PlacesFit, closed_pairs, joined_places}
use Rattle.grid_placed.specs.Translation.{bus_section, outlet_placed, outlets_at, translated_level}
use Rattle.grid_placed.specs.Views.{connects_among}
use Rattle.grid_placed.proofs.Nodes.{StandsWell, level_nodes, level_passing, filter_map_of}
use Rattle.grid_placed.proofs.BusTerminals.{absent, outlet_of, outlet_at}
use Rattle.grid_placed.proofs.JoinedNodes.{node_total, nodes_joined, buses_joined, joined_places_alike, joined_behind, joined_alone}

-- ---- filters

filter_twice_by : (p : ℕ → Bool) (x : ℕ) (rest : List ℕ) (t : Bool) → (t ≡ true → p x ≡ false) → filter p rest ≡ [] → filter p (cond t (x ∷ rest) rest) ≡ []
filter_twice_by p x rest true h k = ap (λ t. cond t (x ∷ filter p rest) (filter p rest)) (h refl) ∙ k
filter_twice_by p x rest false h k = k

-- of those that pass one test none passes another
pub filter_neither : (p q : ℕ → Bool) (xs : List ℕ) → ((n : ℕ) → In n xs → q n ≡ true → p n ≡ false) → filter p (filter q xs) ≡ []
filter_neither p q [] none = refl
filter_neither p q (x ∷ xs) none = filter_twice_by p x (filter q xs) (q x) (none x (In_here x xs)) (filter_neither p q xs (λ n i. none n (In_there n x xs i)))

-- two tests of items with their numbers, that agree at each
pub filter_numbered : {X : Type 0} (p q : ℕ × X → Bool) (at : ℕ) (xs : List X) → ((k : ℕ) (d : X) → k < length xs → p (at + k, get_or xs k d) ≡ q (at + k, get_or xs k d)) → filter p (enumerate_from at xs) ≡ filter q (enumerate_from at xs)
filter_numbered p q at [] same = refl
filter_numbered {X} p q at (x ∷ xs) same =
    let here : p (at, x) ≡ q (at, x) = (let e : at + 0 ≡ at = omega arith in let P : ℕ → Type 0 = λ n. p (n, x) ≡ q (n, x) in subst P e (same 0 x (omega arith))) in
    ap (λ t. cond t ((at, x) ∷ filter p (enumerate_from (at + 1) xs)) (filter p (enumerate_from (at + 1) xs))) here
    ∙ ap (λ z. cond (q (at, x)) ((at, x) ∷ z) z) (filter_numbered p q (at + 1) xs (λ k d lt. next k d (same (suc k) d (omega (arith, lt)))))
  where
    next : (k : ℕ) (d : X) → p (at + suc k, get_or xs k d) ≡ q (at + suc k, get_or xs k d) → p (at + 1 + k, get_or xs k d) ≡ q (at + 1 + k, get_or xs k d)
    next k d h = let e : at + suc k ≡ at + 1 + k = omega arith in let P : ℕ → Type 0 = λ n. p (n, get_or xs k d) ≡ q (n, get_or xs k d) in subst P e h

-- ---- what stands at the nodes of a group

-- a bus, of those at some places
unfoldable pub at_places : List ℕ → ℕ × List ℕ → Bool
at_places group e = list_any (eqb e.0) group

-- a terminal that is connected at some places
unfoldable pub at_nodes : List ℕ → ℕ × Outlet → Bool
at_nodes group e = connects_among group e.1

-- the buses at the places that are joined to one
unfoldable pub sections : PlacedLevel → ℕ → List (ℕ × List ℕ)
sections level a = filter (at_places (joined_places level a)) (enumerate_from 0 level.buses)

-- and the terminals that are connected there
unfoldable pub feeders : PlacedLevel → ℕ → List (ℕ × Outlet)
feeders level a = filter (at_nodes (joined_places level a)) (outlets_at level)

and_any : (t : Bool) (x : ℕ) (group : List ℕ) (s : Bool) → list_any (eqb x) group ≡ s → (t && s) ≡ (t && list_any (λ n. eqb x n) group)
and_any t x group s e = ap (λ z. t && z) (sym e)

module _ (level : PlacedLevel) (fit : PlacesFit level) where
  -- the group of a node
  pub group_is : (a : ℕ) → group_under bus (translated_level level) a ≡ filter (nodes_joined level a) (places (node_total level))
  unfolding group_under group_of nodes_joined
  group_is a =
      ap (λ z. filter (joined z (passing bus (translated_level level)) a) z) (level_nodes level fit)
      ∙ ap (λ z. filter (joined (places (node_total level)) z a) (places (node_total level))) (level_passing level)

  pub in_group : (a n : ℕ) → n < node_total level → list_any (eqb n) (group_under bus (translated_level level) a) ≡ nodes_joined level a n
  in_group a n lt = ap (list_any (eqb n)) (group_is a) ∙ In_filtered (nodes_joined level a) n (places (node_total level)) (In_places n (node_total level) lt)

  pub in_places : (a n : ℕ) → n < length level.buses → list_any (eqb n) (joined_places level a) ≡ buses_joined level a n
  unfolding joined_places group_of buses_joined
  in_places a n lt = In_filtered (joined (places (length level.buses)) (closed_pairs level) a) n (places (length level.buses)) (In_places n (length level.buses) lt)

  pub outlet_is : (k : ℕ) (d : Outlet) → k < length level.outlets → outlet_of level (length level.buses + k) ≡ get_or level.outlets k d
  outlet_is k d lt = outlet_at level k (length level.buses + k) refl ∙ get_or_any level.outlets k absent d lt

  section_test : (a : ℕ) → a < length level.buses → (k : ℕ) (d : List ℕ) → k < length level.buses
      → list_any (eqb (0 + k)) (group_under bus (translated_level level) a) ≡ list_any (eqb (0 + k)) (joined_places level a)
  section_test a lt k d less =
      let same : 0 + k ≡ k = omega arith in
      ap (λ n. list_any (eqb n) (group_under bus (translated_level level) a)) same ∙ in_group a k (omega (arith, less)) ∙ joined_places_alike level fit a k lt less ∙ sym (in_places a k less)
      ∙ ap (λ n. list_any (eqb n) (joined_places level a)) (sym same)

  -- a terminal's node is joined to a bus where the terminal is connected at one that is joined to it
  pub feeder_joined : (a : ℕ) → a < length level.buses → (k : ℕ) (d : Outlet) → k < length level.outlets
      → nodes_joined level a (length level.buses + k) ≡ connects_among (joined_places level a) (get_or level.outlets k d)
  unfolding connects_among
  feeder_joined a lt k d less =
      let same = outlet_is k d less in
      let inside : (get_or level.outlets k d).place < length level.buses = (All-get_or (StandsWell (length level.buses)) level.outlets k d less fit.outlets).0 in
      joined_behind level fit a (length level.buses + k) lt (omega arith) (omega (arith, less))
      ∙ ap (λ (t : Outlet). t.connected && buses_joined level a t.place) same
      ∙ and_any (get_or level.outlets k d).connected (get_or level.outlets k d).place (joined_places level a) (buses_joined level a (get_or level.outlets k d).place) (in_places a (get_or level.outlets k d).place inside)

  pub feeder_test : (a : ℕ) → a < length level.buses → (k : ℕ) (d : Outlet) → k < length level.outlets
      → list_any (eqb (length level.buses + k)) (group_under bus (translated_level level) a) ≡ connects_among (joined_places level a) (get_or level.outlets k d)
  feeder_test a lt k d less = in_group a (length level.buses + k) (omega (arith, less)) ∙ feeder_joined a lt k d less

  -- what stands in the group of a bus: the buses joined to it, and the terminals that are connected there
  pub standing : (a : ℕ) → a < length level.buses
      → placed_among (translated_level level) (group_under bus (translated_level level) a) ≡ map bus_section (sections level a) ++ map outlet_placed (feeders level a)
  unfolding placed_among translated_level sections feeders outlets_at at_places at_nodes bus_section outlet_placed
  standing a lt =
      let test : Placed → Bool = λ p. list_any (λ n. eqb p.node n) (group_under bus (translated_level level) a) in
      filter-append test (map bus_section (enumerate_from 0 level.buses)) (map outlet_placed (enumerate_from (length level.buses) level.outlets))
      ∙ ap (λ z. z ++ filter test (map outlet_placed (enumerate_from (length level.buses) level.outlets)))
      (filter_map_of test bus_section (enumerate_from 0 level.buses)
      ∙ ap (map bus_section) (filter_numbered (λ e. test (bus_section e)) (at_places (joined_places level a)) 0 level.buses (section_test a lt)))
      ∙ ap (λ z. map bus_section (filter (at_places (joined_places level a)) (enumerate_from 0 level.buses)) ++ z)
      (filter_map_of test outlet_placed (enumerate_from (length level.buses) level.outlets)
      ∙ ap (map outlet_placed) (filter_numbered (λ e. test (outlet_placed e)) (at_nodes (joined_places level a)) (length level.buses) level.outlets (feeder_test a lt)))

  -- ---- a node alone

  -- what stands at a node behind the buses
  pub standing_only : (group : List ℕ) (y : ℕ) → length level.buses ≤ y → ((n : ℕ) → n < node_total level → list_any (eqb n) group ≡ eqb y n)
      → placed_among (translated_level level) group ≡ map outlet_placed (filter (λ e. eqb y e.0) (outlets_at level))
  unfolding placed_among translated_level outlets_at bus_section outlet_placed
  standing_only group y b only =
      let test : Placed → Bool = λ p. list_any (λ n. eqb p.node n) group in
      filter-append test (map bus_section (enumerate_from 0 level.buses)) (map outlet_placed (enumerate_from (length level.buses) level.outlets))
      ∙ ap (λ z. z ++ filter test (map outlet_placed (enumerate_from (length level.buses) level.outlets)))
      (filter_map_of test bus_section (enumerate_from 0 level.buses)
      ∙ ap (map bus_section) (filter_numbered (λ e. test (bus_section e)) (λ e. false) 0 level.buses (λ k d less. only (0 + k) (omega (arith, less)) ∙ ne_eqb y (0 + k) (λ e. omega (arith, e, b, less))) ∙ none_pass (enumerate_from 0 level.buses)))
      ∙ (filter_map_of test outlet_placed (enumerate_from (length level.buses) level.outlets)
      ∙ ap (map outlet_placed) (filter_numbered (λ e. test (outlet_placed e)) (λ e. eqb y e.0) (length level.buses) level.outlets (λ k d less. only (length level.buses + k) (omega (arith, less)))))
    where
      none_pass : (es : List (ℕ × List ℕ)) → filter (λ e. false) es ≡ []
      none_pass [] = refl
      none_pass (e ∷ es) = none_pass es

  -- what stands in the group of a terminal that is not connected
  pub standing_alone : (y : ℕ) → length level.buses ≤ y → (outlet_of level y).connected ≡ false
      → placed_among (translated_level level) (group_under bus (translated_level level) y) ≡ map outlet_placed (filter (λ e. eqb y e.0) (outlets_at level))
  standing_alone y b off = standing_only (group_under bus (translated_level level) y) y b (λ n lt. in_group y n lt ∙ joined_alone level fit y n b off)
