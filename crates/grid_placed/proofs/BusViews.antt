-- The bus view of a level in node/breaker form is its configured view.
use Rattle.std.proofs.Common.{◌≡◌, refl, sym, ap, ◌∙◌, ℕ, ℤ, suc, ◌+◌, ◌<◌, Bool, true, false, cond, List, [], ◌∷◌, ◌++◌, length, get_or, drop, arith}
use Rattle.std.specs.Prelude.{eqb, pos, ◌+ℤ◌, map, filter, fold, zip}
use Rattle.std.specs.List.{list_any, enumerate_from, range_with_len, slice_index_or}
use Rattle.std.proofs.lemmas.List.{map-append, map-id, length-map, drop_at}
use Rattle.std.proofs.lemmas.List.Elements.{filter-append}
use Rattle.std.proofs.lemmas.List.FromFn.{length-enumerate_from}
use Rattle.grid_lemmas.proofs.Lists.{map_twice}
use Rattle.grid_graph.specs.Joined.{joined, is_least, least_nodes, group_of}
use Rattle.grid_graph.specs.Components.{places}
use Rattle.grid_graph.proofs.Reach.{In, In_here, In_there}
use Rattle.grid_graph.proofs.Places.{places_In}
use Rattle.grid_graph.proofs.FilteredNodes.{filters_same}
use Rattle.grid_level.specs.declared.Placed.{Placed}
use Rattle.grid_level.specs.declared.Terminal.{Terminal}
use Rattle.grid_level.specs.declared.Stand.{Stand}
use Rattle.grid_level.specs.declared.Stand.TheVariants.{Busbar}
use Rattle.grid_level.specs.Passing as levels
use Rattle.grid_level.specs.Passing.{bus}
use Rattle.grid_groups.specs.Groups.{group_under, terminals_at}
use Rattle.grid_groups.proofs.Lists.{filter_In}
use Rattle.grid_busview.specs.declared.ViewBus.{ViewBus}
use Rattle.grid_busview.specs.Views.{Fed, is_load, is_generation, stand_watts, record_watts, fed_among, watts_over, bus_of, bus_view_of}
use Rattle.grid_busview.proofs.LabelViews.{retained_ignored}
use Rattle.grid_placed.specs.Places.{Outlet, PlacedLevel, PlacesFit, closed_pairs, joined_places, first_places, positioned, stood}
use Rattle.grid_placed.specs.Translation.{bus_terminal, bus_section, outlet_placed, outlets_at, translated_level}
use Rattle.grid_placed.specs.Views.{connects_among, outlets_among, nodes_among, is_view_bus, view_places, FedOutlet, outlets_fed, outlet_watts, outlet_records, outlet_part, group_bus, group_view}
use Rattle.grid_placed.proofs.Nodes.{enumerated, numbers_from, filter_map_of}
use Rattle.grid_placed.proofs.JoinedNodes.{nodes_joined, buses_joined, places_split, joined_places_alike}
use Rattle.grid_placed.proofs.GroupMembers.{filter_numbered, at_places, at_nodes, sections, feeders, group_is, feeder_joined, feeder_test, standing}
use Rattle.grid_placed.proofs.BusGroups.{section_places, buses_led}
use Rattle.grid_placed.proofs.PresentLevels.{level_in_positions, places_positioned}

-- ---- lists

pub map_In : {Y : Type 0} (f g : ℕ → Y) (xs : List ℕ) → ((n : ℕ) → In n xs → f n ≡ g n) → map f xs ≡ map g xs
map_In f g [] same = refl
map_In f g (x ∷ xs) same = ap (λ y. y ∷ map f xs) (same x (In_here x xs)) ∙ ap (λ z. g x ∷ z) (map_In f g xs (λ n i. same n (In_there n x xs i)))

-- items that pass by themselves, without their numbers
passed_items : {X : Type 0} (p : X → Bool) (at : ℕ) (xs : List X) → map (λ (e : ℕ × X). e.1) (filter (λ e. p e.1) (enumerate_from at xs)) ≡ filter p xs
passed_items {X} p at xs = sym (filter_map_of p (λ (e : ℕ × X). e.1) (enumerate_from at xs)) ∙ ap (filter p) (enumerated (λ (x : X). x) at xs ∙ map-id xs)

numbered_by : (f g : ℕ × List ℕ → List ℕ) (e : ℕ × List ℕ) (rest : List (ℕ × List ℕ)) (t : Bool) → f e ≡ g e → map f rest ≡ map g rest → map f (cond t (e ∷ rest) rest) ≡ map g (cond t (e ∷ rest) rest)
numbered_by f g e rest true h k = ap (λ y. y ∷ map f rest) h ∙ ap (λ z. g e ∷ z) k
numbered_by f g e rest false h k = k

-- items that pass by their numbers, found again by these
numbered_items : (q : ℕ × List ℕ → Bool) (all : List (List ℕ)) (at : ℕ) (xs : List (List ℕ)) → ((k : ℕ) → k < length xs → get_or all (at + k) [] ≡ get_or xs k [])
    → map (λ (e : ℕ × List ℕ). e.1) (filter q (enumerate_from at xs)) ≡ map (λ (e : ℕ × List ℕ). get_or all e.0 []) (filter q (enumerate_from at xs))
numbered_items q all at [] same = refl
numbered_items q all at (x ∷ xs) same =
    numbered_by (λ (e : ℕ × List ℕ). e.1) (λ (e : ℕ × List ℕ). get_or all e.0 []) (at, x) (filter q (enumerate_from (at + 1) xs)) (q (at, x))
    (let e : at + 0 ≡ at = omega arith in sym (sym (ap (λ n. get_or all n []) e) ∙ same 0 (omega arith)))
    (numbered_items q all (at + 1) xs (λ k lt. let e : at + 1 + k ≡ at + suc k = omega arith in ap (λ n. get_or all n []) e ∙ same (suc k) (omega (arith, lt))))

zip_parts : {X Y : Type 0} (xs ys : List X) (ws : List Y) → zip (xs ++ ys) ws ≡ zip xs ws ++ zip ys (drop (length xs) ws)
zip_parts [] ys ws = refl
zip_parts (x ∷ xs) [] [] = refl
zip_parts (x ∷ xs) (y ∷ ys) [] = refl
zip_parts (x ∷ xs) ys (w ∷ ws) = ap (λ z. (x, w) ∷ z) (zip_parts xs ys ws)

-- ---- sums

abbrev fed_passes : (Stand → Bool) → List Fed → List Fed
fed_passes test fed = filter (λ pair. test pair.0.stand) fed

-- what passes of busbar sections, where none does
no_sections : (test : Stand → Bool) (p : Placed → Bool) → test Busbar ≡ false → (es : List (ℕ × List ℕ)) (ws : List ℤ) → fed_passes test (filter (λ pair. p pair.0) (zip (map bus_section es) ws)) ≡ []
unfolding bus_section
no_sections test p h [] ws = refl
no_sections test p h (e ∷ es) [] = refl
no_sections test p h (e ∷ es) (w ∷ ws) = by (no_sections test p h es ws) (p (bus_section e))
  where
    rest : List Fed
    rest = filter (λ (pair : Fed). p pair.0) (zip (map bus_section es) ws)

    by : fed_passes test rest ≡ [] → (t : Bool) → fed_passes test (cond t ((bus_section e, w) ∷ rest) rest) ≡ []
    by none true = ap (λ t. cond t ((bus_section e, w) ∷ fed_passes test rest) (fed_passes test rest)) h ∙ none
    by none false = none

abbrev add_fed : ℤ → Fed → ℤ
add_fed total pair = total +ℤ pair.1

abbrev add_outlet : ℤ → FedOutlet → ℤ
add_outlet total pair = total +ℤ pair.1

-- the sum over terminals that pass by their nodes, as over those that pass by themselves
outlets_sum : (test : Stand → Bool) (p : Placed → Bool) (q : Outlet → Bool) (at : ℕ) (ts : List Outlet) (ws : List ℤ) (total : ℤ)
    → ((k : ℕ) (d : Outlet) → k < length ts → p (outlet_placed (at + k, get_or ts k d)) ≡ q (get_or ts k d))
    → fold add_fed total (fed_passes test (filter (λ pair. p pair.0) (zip (map outlet_placed (enumerate_from at ts)) ws)))
    ≡ fold add_outlet total (filter (λ pair. test pair.0.stand) (filter (λ pair. q pair.0) (zip ts ws)))
unfolding outlet_placed
outlets_sum test p q at [] ws total same = refl
outlets_sum test p q at (t ∷ ts) [] total same = refl
outlets_sum test p q at (t ∷ ts) (w ∷ ws) total same =
    ap (λ b. fold add_fed total (fed_passes test (cond b ((outlet_placed (at, t), w) ∷ rest) rest))) here ∙ by (λ sum. outlets_sum test p q (at + 1) ts ws sum next) (q t) (test t.stand) refl
  where
    rest : List Fed
    rest = filter (λ (pair : Fed). p pair.0) (zip (map outlet_placed (enumerate_from (at + 1) ts)) ws)

    others : List FedOutlet
    others = filter (λ (pair : FedOutlet). q pair.0) (zip ts ws)

    here : p (outlet_placed (at, t)) ≡ q t
    here = let e : at ≡ at + 0 = omega arith in ap (λ n. p (outlet_placed (n, t))) e ∙ same 0 t (omega arith)

    next : (k : ℕ) (d : Outlet) → k < length ts → p (outlet_placed (at + 1 + k, get_or ts k d)) ≡ q (get_or ts k d)
    next k d lt = let e : at + 1 + k ≡ at + suc k = omega arith in ap (λ n. p (outlet_placed (n, get_or ts k d))) e ∙ same (suc k) d (omega (arith, lt))

    by : ((sum : ℤ) → fold add_fed sum (fed_passes test rest) ≡ fold add_outlet sum (filter (λ pair. test pair.0.stand) others))
        → (b c : Bool) → test t.stand ≡ c → fold add_fed total (fed_passes test (cond b ((outlet_placed (at, t), w) ∷ rest) rest))
        ≡ fold add_outlet total (filter (λ pair. test pair.0.stand) (cond b ((t, w) ∷ others) others))
    by more false c e = more total
    by more true true e =
        ap (λ z. fold add_fed total (cond z ((outlet_placed (at, t), w) ∷ fed_passes test rest) (fed_passes test rest))) e ∙ more (total +ℤ w)
        ∙ sym (ap (λ z. fold add_outlet total (cond z ((t, w) ∷ filter (λ pair. test pair.0.stand) others) (filter (λ pair. test pair.0.stand) others))) e)
    by more true false e =
        ap (λ z. fold add_fed total (cond z ((outlet_placed (at, t), w) ∷ fed_passes test rest) (fed_passes test rest))) e ∙ more total
        ∙ sym (ap (λ z. fold add_outlet total (cond z ((t, w) ∷ filter (λ pair. test pair.0.stand) others) (filter (λ pair. test pair.0.stand) others))) e)

-- the watts that the records give are those of the terminals' records
pub records_are : (level : PlacedLevel) → outlet_part level (record_watts (translated_level level)) ≡ outlet_records level
unfolding outlet_part outlet_records record_watts translated_level outlets_at outlet_placed
records_are level =
    let front = map bus_section (enumerate_from 0 level.buses) in
    let back = map outlet_placed (enumerate_from (length level.buses) level.outlets) in
    let watts : Placed → ℤ = λ p. stand_watts p.stand in
    let long : length (map watts front) ≡ length level.buses = length-map front watts ∙ length-map (enumerate_from 0 level.buses) bus_section ∙ length-enumerate_from 0 level.buses in
    ap (drop (length level.buses)) (map-append watts front back)
    ∙ drop_at (map watts front) (map watts back) (length level.buses) long
    ∙ map_twice watts outlet_placed (enumerate_from (length level.buses) level.outlets)
    ∙ enumerated (λ (t : Outlet). stand_watts t.stand) (length level.buses) level.outlets

-- ---- a bus

module _ (level : PlacedLevel) (fit : PlacesFit level) where
  outlets_are : (a : ℕ) → map (λ e. e.1) (feeders level a) ≡ outlets_among level (joined_places level a)
  unfolding feeders outlets_among outlets_at at_nodes
  outlets_are a = passed_items (connects_among (joined_places level a)) (length level.buses) level.outlets

  buses_are : (a : ℕ) → map (λ e. e.1) (sections level a) ≡ map (λ k. slice_index_or level.buses k []) (joined_places level a)
  unfolding sections
  buses_are a =
      numbered_items (at_places (joined_places level a)) level.buses 0 level.buses (λ k lt. let e : 0 + k ≡ k = omega arith in ap (λ n. get_or level.buses n []) e)
      ∙ sym (map_twice (λ k. slice_index_or level.buses k []) (λ (e : ℕ × List ℕ). e.0) (sections level a))
      ∙ ap (map (λ k. slice_index_or level.buses k [])) (section_places level fit a)

  -- the nodes of a group: the places of its buses, then the nodes of the terminals that are connected there
  pub group_nodes : (a : ℕ) → a < length level.buses → group_under bus (translated_level level) a ≡ joined_places level a ++ nodes_among level (joined_places level a)
  unfolding nodes_among outlets_at joined_places group_of buses_joined
  group_nodes a lt =
      let low = places (length level.buses) in
      let high = range_with_len (length level.buses) (length level.outlets) in
      let numbered = enumerate_from (length level.buses) level.outlets in
      let test = nodes_joined level a in
      group_is level fit a ∙ ap (filter test) (places_split level) ∙ filter-append test low high
      ∙ ap (λ z. z ++ filter test high) (filters_same test (joined low (closed_pairs level) a) low (λ n i. joined_places_alike level fit a n lt (places_In n (length level.buses) i)))
      ∙ ap (λ z. filter (joined low (closed_pairs level) a) low ++ z)
      (ap (filter test) (sym (numbers_from (length level.buses) level.outlets))
      ∙ filter_map_of test (λ (e : ℕ × Outlet). e.0) numbered
      ∙ ap (map (λ (e : ℕ × Outlet). e.0)) (filter_numbered (λ e. test e.0) (λ e. connects_among (joined_places level a) e.1) (length level.buses) level.outlets (feeder_joined level fit a lt)))

  pub group_terminals : (a : ℕ) → a < length level.buses → terminals_at (translated_level level) (group_under bus (translated_level level) a)
      ≡ map (λ k. bus_terminal (slice_index_or level.buses k [])) (joined_places level a) ++ map (λ (t : Outlet). t.terminal) (outlets_among level (joined_places level a))
  unfolding terminals_at bus_section outlet_placed
  group_terminals a lt =
      ap (map (λ (p : Placed). p.terminal)) (standing level fit a lt)
      ∙ map-append (λ (p : Placed). p.terminal) (map bus_section (sections level a)) (map outlet_placed (feeders level a))
      ∙ ap (λ z. z ++ map (λ (p : Placed). p.terminal) (map outlet_placed (feeders level a)))
      (map_twice (λ (p : Placed). p.terminal) bus_section (sections level a)
      ∙ sym (map_twice bus_terminal (λ (e : ℕ × List ℕ). e.1) (sections level a))
      ∙ ap (map bus_terminal) (buses_are a)
      ∙ map_twice bus_terminal (λ k. slice_index_or level.buses k []) (joined_places level a))
      ∙ ap (λ z. map (λ k. bus_terminal (slice_index_or level.buses k [])) (joined_places level a) ++ z)
      (map_twice (λ (p : Placed). p.terminal) outlet_placed (feeders level a)
      ∙ sym (map_twice (λ (t : Outlet). t.terminal) (λ (e : ℕ × Outlet). e.1) (feeders level a))
      ∙ ap (map (λ (t : Outlet). t.terminal)) (outlets_are a))

  group_sum : (watts : List ℤ) (test : Stand → Bool) → test Busbar ≡ false → (a : ℕ) → a < length level.buses
      → watts_over test (fed_among (translated_level level) watts (group_under bus (translated_level level) a)) ≡ outlet_watts test (outlets_fed level (outlet_part level watts) (joined_places level a))
  unfolding watts_over fed_among translated_level outlets_at outlet_watts outlets_fed outlet_part outlet_placed
  group_sum watts test h a lt =
      let p : Placed → Bool = λ p. list_any (λ n. eqb p.node n) (group_under bus (translated_level level) a) in
      let front = map bus_section (enumerate_from 0 level.buses) in
      let back = map outlet_placed (enumerate_from (length level.buses) level.outlets) in
      let long : length front ≡ length level.buses = length-map (enumerate_from 0 level.buses) bus_section ∙ length-enumerate_from 0 level.buses in
      let behind = drop (length level.buses) watts in
      let passes : Fed → Bool = λ pair. p pair.0 in
      ap (λ z. fold add_fed (pos 0) (fed_passes test z))
      (ap (filter passes) (zip_parts front back watts ∙ ap (λ n. zip front watts ++ zip back (drop n watts)) long) ∙ filter-append passes (zip front watts) (zip back behind))
      ∙ ap (fold add_fed (pos 0)) (filter-append (λ (pair : Fed). test pair.0.stand) (filter passes (zip front watts)) (filter passes (zip back behind))
      ∙ ap (λ z. z ++ fed_passes test (filter passes (zip back behind))) (no_sections test p h (enumerate_from 0 level.buses) watts))
      ∙ outlets_sum test p (connects_among (joined_places level a)) (length level.buses) level.outlets behind (pos 0) (feeder_test level fit a lt)

  made : ℕ → List ℕ → List Terminal → ℤ → ℤ → ViewBus
  made a nodes terminals load generation = record { least = a; nodes = nodes; terminals = terminals; load = load; generation = generation }

  bus_shown : (watts : List ℤ) (a : ℕ) → a < length level.buses → bus_of (translated_level level) watts a ≡ group_bus level (outlet_part level watts) a
  unfolding bus_of group_bus is_load is_generation made
  bus_shown watts a lt =
      let nodes = joined_places level a ++ nodes_among level (joined_places level a) in
      let terminals = map (λ k. bus_terminal (slice_index_or level.buses k [])) (joined_places level a) ++ map (λ (t : Outlet). t.terminal) (outlets_among level (joined_places level a)) in
      let old_load = watts_over is_load (fed_among (translated_level level) watts (group_under bus (translated_level level) a)) in
      let old_generation = watts_over is_generation (fed_among (translated_level level) watts (group_under bus (translated_level level) a)) in
      let load = outlet_watts is_load (outlets_fed level (outlet_part level watts) (joined_places level a)) in
      ap (λ z. made a z (terminals_at (translated_level level) (group_under bus (translated_level level) a)) old_load old_generation) (group_nodes a lt)
      ∙ ap (λ z. made a nodes z old_load old_generation) (group_terminals a lt)
      ∙ ap (λ z. made a nodes terminals z old_generation) (group_sum watts is_load refl a lt)
      ∙ ap (made a nodes terminals load) (group_sum watts is_generation refl a lt)

  -- the places of the view are those of buses
  pub view_inside : (a : ℕ) → In a (view_places level) → a < length level.buses
  unfolding view_places first_places least_nodes
  view_inside a i =
      places_In a (length level.buses) (filter_In (is_least (places (length level.buses)) (closed_pairs level)) a (places (length level.buses)) (filter_In (is_view_bus level) a (first_places level) i))

  -- the bus view is the configured view, with the watts of the terminals
  pub view_shown : (watts : List ℤ) → bus_view_of (translated_level level) watts ≡ group_view level (outlet_part level watts)
  unfolding bus_view_of group_view translated_level
  view_shown watts =
      ap (λ (z : List ViewBus). record { level = level.id; buses = z })
      (ap (map (bus_of (translated_level level) watts)) (buses_led level fit)
      ∙ map_In (bus_of (translated_level level) watts) (group_bus level (outlet_part level watts)) (view_places level) (λ a i. bus_shown watts a (view_inside a i)))

-- in any positions, whatever switches are retained
pub views_correspond : (level : PlacedLevel) → PlacesFit level → (opened retained : List Bool) (watts : List ℤ)
    → bus_view_of (levels.stood (translated_level level) opened retained) watts ≡ group_view (positioned level opened) (outlet_part level watts)
unfolding outlet_part positioned stood
views_correspond level fit opened retained watts =
    retained_ignored (translated_level level) opened retained watts
    ∙ ap (λ z. bus_view_of z watts) (level_in_positions level opened)
    ∙ view_shown (positioned level opened) (places_positioned level opened fit) watts
