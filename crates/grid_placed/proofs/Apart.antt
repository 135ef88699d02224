-- The bus/breaker view of a level in node/breaker form has each configured bus alone with its connected terminals.
use Rattle.std.proofs.Common.{◌≡◌, refl, sym, ap, ◌∙◌, subst, ℕ, zero, suc, ◌+◌, ◌<◌, ◌≤◌, Bool, true, false, cond, not, ◌&&◌, List, [], ◌∷◌, ◌++◌, length, get_or, inl, inr, arith}
use Rattle.std.specs.Prelude.{eqb, nat_lt, map, filter, slice_index, All}
use Rattle.std.specs.List.{enumerate_from, range_with_len, slice_index_or}
use Rattle.std.proofs.lemmas.Bool.{false≢true, cases_Bool, and_left, and_right, cases_lt, eq-eqb, ne_eqb, le-ltb}
use Rattle.std.proofs.lemmas.List.{append-nil, map-append}
use Rattle.std.proofs.lemmas.List.Elements.{filter-append, All-head, All-tail, All-nil}
use Rattle.grid_lemmas.proofs.Lists.{map_twice}
use Rattle.grid_graph.specs.Joined.{joined, is_least, least_nodes, group_of}
use Rattle.grid_graph.specs.Components.{places}
use Rattle.grid_graph.proofs.Places.{places_In}
use Rattle.grid_graph.proofs.FilteredNodes.{filters_same}
use Rattle.grid_level.specs.declared.Switch.{Switch}
use Rattle.grid_level.specs.declared.Placed.{Placed}
use Rattle.grid_level.specs.declared.Terminal.{Terminal}
use Rattle.grid_level.specs.VoltageLevel.{VoltageLevel}
use Rattle.grid_level.specs.Passing as levels
use Rattle.grid_level.specs.Passing.{bus, breaker, switch_edge, ends, nodes, passing, switch_passes, passes_closed, placed_among}
use Rattle.grid_groups.specs.Groups.{group_under, leaders, leader_of, terminals_at}
use Rattle.grid_groups.proofs.Lists.{get_or_any}
use Rattle.grid_busbreaker.specs.declared.Bus.{Bus}
use Rattle.grid_busbreaker.specs.declared.ViewSwitch.{ViewSwitch}
use Rattle.grid_busbreaker.specs.Views.{bus_of, view_switch, bus_breaker_view_of}
use Rattle.grid_placed.specs.Places.{Joint, Outlet, PlacedLevel, PlacesFit, closed_pairs, joined_places, positioned}
use Rattle.grid_placed.specs.Translation.{joint_breaker, outlet_breaker, bus_terminal, outlet_placed, outlets_at, translated_level}
use Rattle.grid_placed.specs.Views.{outlets_among, nodes_among}
use Rattle.grid_placed.specs.Apart.{bus_alone, outlet_alone, joint_shown, apart_view}
use Rattle.grid_placed.specs.Laws.{records_retained}
use Rattle.grid_placed.proofs.Nodes.{numbers_from, filter_map_of, filter_alike, not_not, level_nodes, level_passing, spokes}
use Rattle.grid_placed.proofs.BusTerminals.{outlet_of}
use Rattle.grid_placed.proofs.JoinedNodes.{any_none, pairs_of, node_total, nodes_joined, places_split, joined_alone, least_bus, least_hanging}
use Rattle.grid_placed.proofs.GroupMembers.{filter_numbered, group_is, outlet_is, standing_alone}
use Rattle.grid_placed.proofs.DisconnectPlans.{none_kept, within_none}
use Rattle.grid_placed.proofs.PresentLevels.{level_in_positions, places_positioned}
use Rattle.grid_placed.proofs.BusViews.{group_nodes, group_terminals}

-- ---- lists

none_of : (a low count : ℕ) → a < low → filter (eqb a) (range_with_len low count) ≡ []
none_of a low zero lt = refl
none_of a low (suc count) lt =
    ap (λ t. cond t (low ∷ filter (eqb a) (range_with_len (low + 1) count)) (filter (eqb a) (range_with_len (low + 1) count))) (ne_eqb a low (λ e. omega (arith, e, lt)))
    ∙ none_of a (low + 1) count (omega (arith, lt))

one_of : (a low count : ℕ) → low ≤ a → a < low + count → filter (eqb a) (range_with_len low count) ≡ a ∷ []
one_of a low zero le lt = absurd (omega (arith, le, lt))
one_of a low (suc count) le lt = elim (cases_lt low a) [
  | inl less ↦ ap (λ t. cond t (low ∷ filter (eqb a) (range_with_len (low + 1) count)) (filter (eqb a) (range_with_len (low + 1) count))) (ne_eqb a low (λ e. omega (arith, e, less)))
      ∙ one_of a (low + 1) count (omega (arith, less)) (omega (arith, lt))
  | inr more ↦ (let same : a ≡ low = omega (arith, le, more) in
      ap (λ t. cond t (low ∷ filter (eqb a) (range_with_len (low + 1) count)) (filter (eqb a) (range_with_len (low + 1) count))) (eq-eqb a low same)
      ∙ ap (λ z. low ∷ z) (none_of a (low + 1) count (omega (arith, same))) ∙ ap (λ n. n ∷ []) (sym same))
]

none_numbered : {X : Type 0} (a at : ℕ) (xs : List X) → a < at → filter (λ (e : ℕ × X). eqb a e.0) (enumerate_from at xs) ≡ []
none_numbered a at [] lt = refl
none_numbered a at (x ∷ xs) lt =
    ap (λ t. cond t ((at, x) ∷ filter (λ e. eqb a e.0) (enumerate_from (at + 1) xs)) (filter (λ e. eqb a e.0) (enumerate_from (at + 1) xs))) (ne_eqb a at (λ e. omega (arith, e, lt)))
    ∙ none_numbered a (at + 1) xs (omega (arith, lt))

-- the item of a number
one_numbered : {X : Type 0} (a at k : ℕ) (xs : List X) (d : X) → at + k ≡ a → k < length xs → filter (λ (e : ℕ × X). eqb a e.0) (enumerate_from at xs) ≡ (a, get_or xs k d) ∷ []
one_numbered a at k [] d e lt = absurd (omega (arith, lt))
one_numbered a at zero (x ∷ xs) d e lt =
    let same : a ≡ at = omega (arith, e) in
    ap (λ t. cond t ((at, x) ∷ filter (λ e. eqb a e.0) (enumerate_from (at + 1) xs)) (filter (λ e. eqb a e.0) (enumerate_from (at + 1) xs))) (eq-eqb a at same)
    ∙ ap (λ z. (at, x) ∷ z) (none_numbered a (at + 1) xs (omega (arith, same))) ∙ ap (λ n. (n, x) ∷ []) (sym same)
one_numbered a at (suc k) (x ∷ xs) d e lt =
    ap (λ t. cond t ((at, x) ∷ filter (λ e. eqb a e.0) (enumerate_from (at + 1) xs)) (filter (λ e. eqb a e.0) (enumerate_from (at + 1) xs))) (ne_eqb a at (λ same. omega (arith, same, e)))
    ∙ one_numbered a (at + 1) k xs d (omega (arith, e)) (omega (arith, lt))

mapped_by : {X Y : Type 0} (f g : X → Y) (x : X) (rest : List X) (t : Bool) → (t ≡ true → f x ≡ g x) → map f rest ≡ map g rest → map f (cond t (x ∷ rest) rest) ≡ map g (cond t (x ∷ rest) rest)
mapped_by f g x rest true h k = ap (λ y. y ∷ map f rest) (h refl) ∙ ap (λ z. g x ∷ z) k
mapped_by f g x rest false h k = k

-- two functions of items with their numbers, that agree at each that passes
map_numbered : {X Y : Type 0} (p : ℕ × X → Bool) (f g : ℕ × X → Y) (at : ℕ) (xs : List X)
    → ((k : ℕ) (d : X) → k < length xs → p (at + k, get_or xs k d) ≡ true → f (at + k, get_or xs k d) ≡ g (at + k, get_or xs k d))
    → map f (filter p (enumerate_from at xs)) ≡ map g (filter p (enumerate_from at xs))
map_numbered p f g at [] same = refl
map_numbered {X} {Y} p f g at (x ∷ xs) same =
    mapped_by f g (at, x) (filter p (enumerate_from (at + 1) xs)) (p (at, x))
    (let e : at + 0 ≡ at = omega arith in let P : ℕ → Type 0 = λ n. p (n, x) ≡ true → f (n, x) ≡ g (n, x) in subst P e (same 0 x (omega arith)))
    (map_numbered p f g (at + 1) xs (λ k d lt. next k d (same (suc k) d (omega (arith, lt)))))
  where
    next : (k : ℕ) (d : X) → (p (at + suc k, get_or xs k d) ≡ true → f (at + suc k, get_or xs k d) ≡ g (at + suc k, get_or xs k d))
        → p (at + 1 + k, get_or xs k d) ≡ true → f (at + 1 + k, get_or xs k d) ≡ g (at + 1 + k, get_or xs k d)
    next k d h =
        let e : at + suc k ≡ at + 1 + k = omega arith in
        let P : ℕ → Type 0 = λ n. p (n, get_or xs k d) ≡ true → f (n, get_or xs k d) ≡ g (n, get_or xs k d) in
        subst P e h

all_kept : {X : Type 0} (xs : List X) → filter (λ x. true) xs ≡ xs
all_kept [] = refl
all_kept (x ∷ xs) = ap (λ z. x ∷ z) (all_kept xs)

map_All : {X Y : Type 0} (P : X → Type 0) (f g : X → Y) (xs : List X) → ((x : X) → P x → f x ≡ g x) → All P xs → map f xs ≡ map g xs
map_All P f g [] same h = refl
map_All P f g (x ∷ xs) same h = ap (λ y. y ∷ map f xs) (same x (All-head P x xs h)) ∙ ap (λ z. g x ∷ z) (map_All P f g xs same (All-tail P x xs h))

not_true : (t : Bool) → not t ≡ true → t ≡ false
not_true true e = absurd (false≢true e)
not_true false e = refl

lesser : (n m : ℕ) (t : Bool) → t ≡ eqb n m → nat_lt m n && t ≡ false
lesser n m t e = elim (cases_lt m n) [
  | inl lt ↦ and_right (nat_lt m n) t (e ∙ ne_eqb n m (λ same. omega (arith, same, lt)))
  | inr le ↦ and_left (nat_lt m n) t (le-ltb m n le)
]

-- ---- what passes

joints_stay : (js : List Joint) → filter (switch_passes breaker) (map joint_breaker js) ≡ []
unfolding switch_passes passes_closed joint_breaker
joints_stay js =
    filter_map_of (switch_passes breaker) joint_breaker js
    ∙ ap (map joint_breaker) (none_kept (λ j. switch_passes breaker (joint_breaker j)) (λ j. and_right (not j.opened) false refl) js)

breakers_pass : (es : List (ℕ × Outlet)) → map (λ s. ends (switch_edge s)) (filter (switch_passes breaker) (map outlet_breaker es)) ≡ map (λ e. (e.1.place, e.0)) (filter (λ (e : ℕ × Outlet). e.1.connected) es)
unfolding ends outlet_breaker switch_passes passes_closed
breakers_pass es =
    ap (map (λ s. ends (switch_edge s))) (filter_map_of (switch_passes breaker) outlet_breaker es)
    ∙ map_twice (λ s. ends (switch_edge s)) outlet_breaker (filter (λ j. switch_passes breaker (outlet_breaker j)) es)
    ∙ ap (map (λ (e : ℕ × Outlet). (e.1.place, e.0))) (filter_alike (λ j. switch_passes breaker (outlet_breaker j)) (λ (e : ℕ × Outlet). e.1.connected) (λ e. not_not e.1.connected) es)

-- the breakers of the connected terminals alone
spokes_pass : (level : PlacedLevel) → passing breaker (translated_level level) ≡ spokes level
unfolding passing translated_level spokes
spokes_pass level =
    append-nil (map (λ s. ends (switch_edge s)) (filter (switch_passes breaker) (map joint_breaker level.joints ++ map outlet_breaker (outlets_at level))))
    ∙ ap (map (λ s. ends (switch_edge s))) (filter-append (switch_passes breaker) (map joint_breaker level.joints) (map outlet_breaker (outlets_at level))
    ∙ ap (λ z. z ++ filter (switch_passes breaker) (map outlet_breaker (outlets_at level))) (joints_stay level.joints))
    ∙ breakers_pass (outlets_at level)

-- ---- the level without its switches

-- under bus it has the groups of the level under breaker
abbrev bare : PlacedLevel → PlacedLevel
bare level = record level { joints = [] }

module _ (level : PlacedLevel) (fit : PlacesFit level) where
  bare_fits : PlacesFit (bare level)
  bare_fits = record { joints = All-nil (λ (s : Joint). (s.place1 < length level.buses) × (s.place2 < length level.buses)); outlets = fit.outlets }

  bare_nodes : nodes (translated_level level) ≡ nodes (translated_level (bare level))
  bare_nodes = level_nodes level fit ∙ sym (level_nodes (bare level) bare_fits)

  bare_passing : passing breaker (translated_level level) ≡ passing bus (translated_level (bare level))
  unfolding spokes outlets_at closed_pairs
  bare_passing = spokes_pass level ∙ sym (level_passing (bare level))

  bare_group : (a : ℕ) → group_under breaker (translated_level level) a ≡ group_under bus (translated_level (bare level)) a
  unfolding group_under
  bare_group a = ap (λ z. group_of z (passing breaker (translated_level level)) a) bare_nodes ∙ ap (λ z. group_of (nodes (translated_level (bare level))) z a) bare_passing

  bare_leaders : leaders breaker (translated_level level) ≡ filter (is_least (places (node_total level)) (pairs_of (bare level))) (places (node_total level))
  unfolding leaders least_nodes
  bare_leaders =
      ap (λ z. filter (is_least z (passing breaker (translated_level level))) z) (level_nodes level fit)
      ∙ ap (λ z. filter (is_least (places (node_total level)) z) (places (node_total level))) (bare_passing ∙ level_passing (bare level))

  bare_terminals : (ns : List ℕ) → terminals_at (translated_level level) ns ≡ terminals_at (translated_level (bare level)) ns
  unfolding terminals_at placed_among translated_level outlets_at
  bare_terminals ns = refl

  -- ---- a configured bus alone

  place_alone : (a b : ℕ) → joined (places (length level.buses)) (closed_pairs (bare level)) a b ≡ eqb a b
  unfolding joined closed_pairs
  place_alone a b = within_none (length (places (length level.buses))) a b

  places_alone : (a : ℕ) → a < length level.buses → joined_places (bare level) a ≡ a ∷ []
  unfolding joined_places group_of places
  places_alone a lt =
      filters_same (joined (places (length level.buses)) (closed_pairs (bare level)) a) (eqb a) (places (length level.buses)) (λ n i. place_alone a n)
      ∙ one_of a 0 (length level.buses) (omega arith) (omega (arith, lt))

  alone_nodes : (a : ℕ) → a < length level.buses → group_under breaker (translated_level level) a ≡ a ∷ nodes_among level (a ∷ [])
  unfolding nodes_among outlets_at
  alone_nodes a lt =
      bare_group a ∙ group_nodes (bare level) bare_fits a lt
      ∙ ap (λ z. z ++ nodes_among (bare level) z) (places_alone a lt)

  alone_terminals : (a : ℕ) → a < length level.buses → terminals_at (translated_level level) (group_under breaker (translated_level level) a)
      ≡ bus_terminal (slice_index_or level.buses a []) ∷ map (λ (t : Outlet). t.terminal) (outlets_among level (a ∷ []))
  unfolding outlets_among
  alone_terminals a lt =
      ap (terminals_at (translated_level level)) (bare_group a)
      ∙ bare_terminals (group_under bus (translated_level (bare level)) a)
      ∙ group_terminals (bare level) bare_fits a lt
      ∙ ap (λ z. map (λ k. bus_terminal (slice_index_or level.buses k [])) z ++ map (λ (t : Outlet). t.terminal) (outlets_among (bare level) z)) (places_alone a lt)

  made : ℕ → List ℕ → List Terminal → Bus
  made a nodes terminals = record { least = a; nodes = nodes; terminals = terminals }

  bus_is_alone : (a : ℕ) → a < length level.buses → bus_of (translated_level level) a ≡ bus_alone level (a, get_or level.buses a [])
  unfolding bus_of bus_alone made
  bus_is_alone a lt =
      ap (λ z. made a z (terminals_at (translated_level level) (group_under breaker (translated_level level) a))) (alone_nodes a lt)
      ∙ ap (made a (a ∷ nodes_among level (a ∷ []))) (alone_terminals a lt)

  -- ---- a terminal that is not connected

  outlet_group : (y : ℕ) → length level.buses ≤ y → y < node_total level → (outlet_of level y).connected ≡ false → group_under breaker (translated_level level) y ≡ y ∷ []
  unfolding outlet_of places
  outlet_group y b lt off =
      bare_group y ∙ group_is (bare level) bare_fits y
      ∙ filters_same (nodes_joined (bare level) y) (eqb y) (places (node_total level)) (λ n i. joined_alone (bare level) bare_fits y n b off)
      ∙ one_of y 0 (node_total level) (omega arith) (omega (arith, lt))

  outlet_terminals : (k : ℕ) (d : Outlet) → k < length level.outlets → (outlet_of level (length level.buses + k)).connected ≡ false
      → terminals_at (translated_level level) (group_under breaker (translated_level level) (length level.buses + k)) ≡ (get_or level.outlets k d).terminal ∷ []
  unfolding terminals_at outlet_of outlets_at outlet_placed placed_among translated_level
  outlet_terminals k d lt off =
      let y = length level.buses + k in
      ap (λ z. map (λ (p : Placed). p.terminal) (placed_among (translated_level (bare level)) z)) (bare_group y)
      ∙ ap (map (λ (p : Placed). p.terminal)) (standing_alone (bare level) bare_fits y (omega arith) off ∙ ap (map outlet_placed) (one_numbered y (length level.buses) k level.outlets d refl lt))

  outlet_is_alone : (k : ℕ) (d : Outlet) → k < length level.outlets → (get_or level.outlets k d).connected ≡ false
      → bus_of (translated_level level) (length level.buses + k) ≡ outlet_alone (length level.buses + k, get_or level.outlets k d)
  unfolding bus_of outlet_alone made
  outlet_is_alone k d lt off =
      let y = length level.buses + k in
      let here : (outlet_of level y).connected ≡ false = ap (λ (t : Outlet). t.connected) (outlet_is level fit k d lt) ∙ off in
      ap (λ z. made y z (terminals_at (translated_level level) (group_under breaker (translated_level level) y))) (outlet_group y (omega arith) (omega (arith, lt)) here)
      ∙ ap (made y (y ∷ [])) (outlet_terminals k d lt here)

  -- ---- who leads

  least_place : (n : ℕ) → is_least (places (length level.buses)) (closed_pairs (bare level)) n ≡ true
  unfolding is_least
  least_place n =
      ap not (any_none (λ b. nat_lt b n && joined (places (length level.buses)) (closed_pairs (bare level)) n b) (places (length level.buses)) (λ m i. lesser n m (joined (places (length level.buses)) (closed_pairs (bare level)) n m) (place_alone n m)))

  least_behind : (y : ℕ) → length level.buses ≤ y → y < node_total level → is_least (places (node_total level)) (pairs_of (bare level)) y ≡ not (outlet_of level y).connected
  unfolding is_least outlet_of nodes_joined
  least_behind y b lt = elim (cases_Bool (outlet_of level y).connected) [
    | inl on ↦ least_hanging (bare level) bare_fits y b lt on ∙ sym (ap not on)
    | inr off ↦ ap not (any_none (λ b. nat_lt b y && joined (places (node_total level)) (pairs_of (bare level)) y b) (places (node_total level))
        (λ m i. lesser y m (joined (places (node_total level)) (pairs_of (bare level)) y m) (joined_alone (bare level) bare_fits y m b off)))
        ∙ sym (ap not off)
  ]

  -- the terminals that are not connected, by their nodes
  apart_at : List (ℕ × Outlet)
  apart_at = filter (λ e. not e.1.connected) (outlets_at level)

  leaders_apart : leaders breaker (translated_level level) ≡ places (length level.buses) ++ map (λ e. e.0) apart_at
  unfolding apart_at outlets_at
  leaders_apart =
      let low = places (length level.buses) in
      let high = range_with_len (length level.buses) (length level.outlets) in
      let least = is_least (places (node_total level)) (pairs_of (bare level)) in
      bare_leaders ∙ ap (filter least) (places_split level) ∙ filter-append least low high
      ∙ ap (λ z. z ++ filter least high)
      (filters_same least (λ n. true) low (λ n i. least_bus (bare level) bare_fits n (places_In n (length level.buses) i) ∙ least_place n) ∙ all_kept low)
      ∙ ap (λ z. low ++ z)
      (ap (filter least) (sym (numbers_from (length level.buses) level.outlets))
      ∙ filter_map_of least (λ (e : ℕ × Outlet). e.0) (enumerate_from (length level.buses) level.outlets)
      ∙ ap (map (λ (e : ℕ × Outlet). e.0)) (filter_numbered (λ e. least e.0) (λ e. not e.1.connected) (length level.buses) level.outlets
      (λ k d lt. least_behind (length level.buses + k) (omega arith) (omega (arith, lt)) ∙ ap (λ (t : Outlet). not t.connected) (outlet_is level fit k d lt))))

  -- ---- the buses

  buses_front : map (bus_of (translated_level level)) (places (length level.buses)) ≡ map (bus_alone level) (enumerate_from 0 level.buses)
  unfolding places
  buses_front =
      let numbered = enumerate_from 0 level.buses in
      ap (map (bus_of (translated_level level))) (sym (numbers_from 0 level.buses))
      ∙ map_twice (bus_of (translated_level level)) (λ (e : ℕ × List ℕ). e.0) numbered
      ∙ ap (map (λ (e : ℕ × List ℕ). bus_of (translated_level level) e.0)) (sym (all_kept numbered))
      ∙ map_numbered (λ e. true) (λ e. bus_of (translated_level level) e.0) (bus_alone level) 0 level.buses
      (λ k d lt h. let e : 0 + k ≡ k = omega arith in
      ap (bus_of (translated_level level)) e ∙ bus_is_alone k lt ∙ ap (λ z. bus_alone level (k, z)) (get_or_any level.buses k [] d lt)
      ∙ ap (λ n. bus_alone level (n, get_or level.buses k d)) (sym e))
      ∙ ap (map (bus_alone level)) (all_kept numbered)

  buses_behind : map (bus_of (translated_level level)) (map (λ e. e.0) apart_at) ≡ map outlet_alone apart_at
  unfolding apart_at outlets_at
  buses_behind =
      map_twice (bus_of (translated_level level)) (λ (e : ℕ × Outlet). e.0) apart_at
      ∙ map_numbered (λ e. not e.1.connected) (λ e. bus_of (translated_level level) e.0) outlet_alone (length level.buses) level.outlets
      (λ k d lt h. outlet_is_alone k d lt (not_true (get_or level.outlets k d).connected h))

  buses_apart : map (bus_of (translated_level level)) (leaders breaker (translated_level level)) ≡ map (bus_alone level) (enumerate_from 0 level.buses) ++ map outlet_alone apart_at
  buses_apart =
      ap (map (bus_of (translated_level level))) leaders_apart
      ∙ map-append (bus_of (translated_level level)) (places (length level.buses)) (map (λ (e : ℕ × Outlet). e.0) apart_at)
      ∙ ap (λ z. z ++ map (bus_of (translated_level level)) (map (λ (e : ℕ × Outlet). e.0) apart_at)) buses_front
      ∙ ap (λ z. map (bus_alone level) (enumerate_from 0 level.buses) ++ z) buses_behind

  -- ---- the switches

  leads_itself : (a : ℕ) → a < length level.buses → leader_of breaker (translated_level level) a ≡ a
  unfolding leader_of
  leads_itself a lt = ap (λ z. slice_index z 0) (alone_nodes a lt)

  made_switch : Joint → ℕ → ℕ → ViewSwitch
  made_switch s bus1 bus2 = record { id = s.id; opened = s.opened; bus1 = bus1; bus2 = bus2 }

  joint_is_shown : (s : Joint) → (s.place1 < length level.buses) × (s.place2 < length level.buses) → view_switch (translated_level level) (joint_breaker s) ≡ joint_shown s
  unfolding view_switch joint_breaker joint_shown made_switch
  joint_is_shown s h =
      ap (λ z. made_switch s z (leader_of breaker (translated_level level) s.place2)) (leads_itself s.place1 h.0) ∙ ap (made_switch s s.place1) (leads_itself s.place2 h.1)

  retained_are : filter (λ s. s.retained) (translated_level level).switches ≡ map joint_breaker level.joints
  unfolding translated_level joint_breaker outlet_breaker
  retained_are =
      let test : Switch → Bool = λ s. s.retained in
      filter-append test (map joint_breaker level.joints) (map outlet_breaker (outlets_at level))
      ∙ ap (λ z. z ++ filter test (map outlet_breaker (outlets_at level))) (filter_map_of test joint_breaker level.joints ∙ ap (map joint_breaker) (all_kept level.joints))
      ∙ ap (λ z. map joint_breaker level.joints ++ z) (filter_map_of test outlet_breaker (outlets_at level) ∙ ap (map outlet_breaker) (none_kept (λ e. false) (λ e. refl) (outlets_at level)))
      ∙ append-nil (map joint_breaker level.joints)

  switches_are : map (view_switch (translated_level level)) (filter (λ s. s.retained) (translated_level level).switches) ≡ map joint_shown level.joints
  switches_are =
      ap (map (view_switch (translated_level level))) retained_are
      ∙ map_twice (view_switch (translated_level level)) joint_breaker level.joints
      ∙ map_All (λ (s : Joint). (s.place1 < length level.buses) × (s.place2 < length level.buses)) (λ s. view_switch (translated_level level) (joint_breaker s)) joint_shown level.joints joint_is_shown fit.joints

  view_apart : bus_breaker_view_of (translated_level level) ≡ apart_view level
  unfolding bus_breaker_view_of apart_view apart_at translated_level
  view_apart =
      ap (λ (z : List Bus). record { level = level.id; buses = z; switches = map (view_switch (translated_level level)) (filter (λ s. s.retained) (translated_level level).switches) }) buses_apart
      ∙ ap (λ (z : List ViewSwitch). record { level = level.id; buses = map (bus_alone level) (enumerate_from 0 level.buses) ++ map outlet_alone apart_at; switches = z }) switches_are

-- ---- the flags retained of the records

same_retained : (ss : List Switch) → levels.with_retained ss (map (λ s. s.retained) ss) ≡ ss
unfolding levels.with_retained
same_retained [] = refl
same_retained (s ∷ ss) = ap (λ z. s ∷ z) (same_retained ss)

kept_retained : (ss : List Switch) (flags : List Bool) → levels.with_retained (levels.with_opened ss flags) (map (λ s. s.retained) ss) ≡ levels.with_opened ss flags
unfolding levels.with_retained levels.with_opened
kept_retained [] flags = refl
kept_retained (s ∷ ss) [] = ap (λ z. s ∷ z) (same_retained ss)
kept_retained (s ∷ ss) (f ∷ flags) = ap (λ z. record s { opened = f } ∷ z) (kept_retained ss flags)

stood_by_records : (level : VoltageLevel) (opened : List Bool) → levels.stood level opened (records_retained level) ≡ levels.positioned level opened
unfolding levels.stood levels.positioned
stood_by_records level opened = ap (λ (z : List Switch). record level { switches = z }) (kept_retained level.switches opened)

pub apart_corresponds : (level : PlacedLevel) → PlacesFit level → (opened : List Bool)
    → bus_breaker_view_of (levels.stood (translated_level level) opened (records_retained (translated_level level))) ≡ apart_view (positioned level opened)
apart_corresponds level fit opened =
    ap bus_breaker_view_of (stood_by_records (translated_level level) opened ∙ level_in_positions level opened)
    ∙ view_apart (positioned level opened) (places_positioned level opened fit)
