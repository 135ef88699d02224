-- Which groups of a level in node/breaker form are buses.
use Rattle.std.proofs.Common.{◌≡◌, refl, sym, ap, ◌∙◌, ℕ, zero, suc, ◌+◌, ◌<◌, ◌≤◌, Bool, true, false, cond, not, ◌&&◌, ◌||◌, List, [], ◌∷◌, ◌++◌, length, arith}
use Rattle.std.specs.Prelude.{eqb, nat_le, map, filter, count_by, All}
use Rattle.std.specs.List.{list_any, enumerate_from, range_with_len}
use Rattle.std.proofs.lemmas.Bool.{and_right, le-leb, lt-leb, eqb-true, false_from_ne_true, both_ways}
use Rattle.std.proofs.lemmas.List.{append-nil, length-map}
use Rattle.std.proofs.lemmas.List.Elements.{filter-append, All-head, All-tail, All-cons, All-nil, All-filter}
use Rattle.std.proofs.lemmas.List.Sums.{sum_by-append, sum_by-cons}
use Rattle.grid_graph.specs.Joined.{joined, is_least, least_nodes, group_of}
use Rattle.grid_graph.specs.Components.{places}
use Rattle.grid_graph.proofs.Reach.{In, joined_refl, some_member}
use Rattle.grid_graph.proofs.Places.{places_In, range_In}
use Rattle.grid_graph.proofs.FilteredNodes.{filters_same}
use Rattle.grid_level.specs.declared.Placed.{Placed}
use Rattle.grid_level.specs.Passing.{bus, passing, is_busbar, is_branch_end}
use Rattle.grid_groups.specs.Groups.{leaders}
use Rattle.grid_groups.proofs.Lists.{filter_In}
use Rattle.grid_busview.specs.Views.{is_feeder, is_valid, is_bus}
use Rattle.grid_placed.specs.Places.{Outlet, PlacedLevel, PlacesFit, closed_pairs, joined_places, first_places}
use Rattle.grid_placed.specs.Translation.{bus_section, outlet_placed, outlets_at, translated_level}
use Rattle.grid_placed.specs.Views.{connects_among, is_view_bus, view_places}
use Rattle.grid_placed.proofs.Nodes.{StandsWell, level_nodes, level_passing, numbers_from, filter_map_of}
use Rattle.grid_placed.proofs.BusTerminals.{outlet_of}
use Rattle.grid_placed.proofs.JoinedNodes.{pairs_of, node_total, buses_joined, places_split, least_bus, least_hanging}
use Rattle.grid_placed.proofs.GroupMembers.{filter_neither, at_places, at_nodes, sections, feeders, in_places, standing, standing_alone}

-- ---- counts

abbrev busbars : List Placed → ℕ
busbars ps = count_by (λ p. is_busbar p.stand) ps

abbrev fed : List Placed → ℕ
fed ps = count_by (λ p. is_feeder p.stand) ps

count_more : (p : Placed → Bool) (x : Placed) (xs : List Placed) → count_by p (x ∷ xs) ≡ cond (p x) 1 0 + count_by p xs
count_more p x xs = sum_by-cons (λ y. cond (p y) 1 0) x xs

count_join : (p : Placed → Bool) (xs ys : List Placed) → count_by p (xs ++ ys) ≡ count_by p xs + count_by p ys
count_join p xs ys = sum_by-append (λ y. cond (p y) 1 0) xs ys

section_bars : (es : List (ℕ × List ℕ)) → busbars (map bus_section es) ≡ length es
unfolding bus_section is_busbar
section_bars [] = refl
section_bars (e ∷ es) = let rest = section_bars es in count_more (λ p. is_busbar p.stand) (bus_section e) (map bus_section es) ∙ omega (arith, rest)

section_fed : (es : List (ℕ × List ℕ)) → fed (map bus_section es) ≡ 0
unfolding bus_section is_feeder is_busbar
section_fed [] = refl
section_fed (e ∷ es) = let rest = section_fed es in count_more (λ p. is_feeder p.stand) (bus_section e) (map bus_section es) ∙ omega (arith, rest)

-- no busbar section
abbrev pub IsFed : ℕ × Outlet → Type 0
IsFed e = is_busbar e.1.stand ≡ false

outlet_bars : (es : List (ℕ × Outlet)) → All IsFed es → busbars (map outlet_placed es) ≡ 0
unfolding outlet_placed
outlet_bars [] h = refl
outlet_bars (e ∷ es) h =
    let rest = outlet_bars es (All-tail IsFed e es h) in
    count_more (λ p. is_busbar p.stand) (outlet_placed e) (map outlet_placed es)
    ∙ ap (λ t. cond t 1 0 + busbars (map outlet_placed es)) (All-head IsFed e es h) ∙ omega (arith, rest)

outlet_fed : (es : List (ℕ × Outlet)) → All IsFed es → fed (map outlet_placed es) ≡ length es
unfolding outlet_placed is_feeder
outlet_fed [] h = refl
outlet_fed (e ∷ es) h =
    let rest = outlet_fed es (All-tail IsFed e es h) in
    count_more (λ p. is_feeder p.stand) (outlet_placed e) (map outlet_placed es)
    ∙ ap (λ t. cond (not t) 1 0 + fed (map outlet_placed es)) (All-head IsFed e es h) ∙ omega (arith, rest)

all_numbered : (at count : ℕ) (ts : List Outlet) → All (StandsWell count) ts → All IsFed (enumerate_from at ts)
all_numbered at count [] h = All-nil IsFed
all_numbered at count (t ∷ ts) h = All-cons IsFed (at, t) (enumerate_from (at + 1) ts) (All-head (StandsWell count) t ts h).1 (all_numbered (at + 1) count ts (All-tail (StandsWell count) t ts h))

pub outlets_fed : (level : PlacedLevel) → PlacesFit level → All IsFed (outlets_at level)
unfolding outlets_at
outlets_fed level fit = all_numbered (length level.buses) (length level.buses) level.outlets fit.outlets

valid_by : (b e f : ℕ) → 1 ≤ b → ((nat_le 1 b && nat_le 1 f) || (nat_le 1 e && nat_le 2 f)) ≡ nat_le 1 f
valid_by b e zero le = rw (le-leb 1 b le, lt-leb 1 0 (omega arith), lt-leb 2 0 (omega arith)) (and_right (nat_le 1 e) false refl)
valid_by b e (suc f) le = rw (le-leb 1 b le, le-leb 1 (suc f) (omega arith)) refl

invalid_by : (b e f : ℕ) → b ≡ 0 → f ≤ 1 → ((nat_le 1 b && nat_le 1 f) || (nat_le 1 e && nat_le 2 f)) ≡ false
invalid_by b e f none few = rw (lt-leb 1 b (omega (arith, none)), lt-leb 2 f (omega (arith, few))) (and_right (nat_le 1 e) false refl)

any_counted : (p : Outlet → Bool) (at : ℕ) (ts : List Outlet) → nat_le 1 (length (filter (λ (e : ℕ × Outlet). p e.1) (enumerate_from at ts))) ≡ list_any p ts
any_counted p at [] = lt-leb 1 0 (omega arith)
any_counted p at (t ∷ ts) = by (p t) (any_counted p (at + 1) ts)
  where
    by : (b : Bool) → nat_le 1 (length (filter (λ (e : ℕ × Outlet). p e.1) (enumerate_from (at + 1) ts))) ≡ list_any p ts
        → nat_le 1 (length (cond b ((at, t) ∷ filter (λ (e : ℕ × Outlet). p e.1) (enumerate_from (at + 1) ts)) (filter (λ (e : ℕ × Outlet). p e.1) (enumerate_from (at + 1) ts)))) ≡ (b || list_any p ts)
    by true rest = le-leb 1 (suc (length (filter (λ (e : ℕ × Outlet). p e.1) (enumerate_from (at + 1) ts)))) (omega arith)
    by false rest = rest

numbered_once : {X : Type 0} (y at : ℕ) (xs : List X) → (length (filter (λ (e : ℕ × X). eqb y e.0) (enumerate_from at xs)) ≤ 1) × (y < at → length (filter (λ (e : ℕ × X). eqb y e.0) (enumerate_from at xs)) ≡ 0)
numbered_once y at [] = (omega arith, λ lt. refl)
numbered_once {X} y at (x ∷ xs) = by (eqb y at) refl (numbered_once y (at + 1) xs)
  where
    by : (b : Bool) → eqb y at ≡ b → (length (filter (λ (e : ℕ × X). eqb y e.0) (enumerate_from (at + 1) xs)) ≤ 1) × (y < at + 1 → length (filter (λ (e : ℕ × X). eqb y e.0) (enumerate_from (at + 1) xs)) ≡ 0)
        → (length (cond b ((at, x) ∷ filter (λ (e : ℕ × X). eqb y e.0) (enumerate_from (at + 1) xs)) (filter (λ (e : ℕ × X). eqb y e.0) (enumerate_from (at + 1) xs))) ≤ 1)
        × (y < at → length (cond b ((at, x) ∷ filter (λ (e : ℕ × X). eqb y e.0) (enumerate_from (at + 1) xs)) (filter (λ (e : ℕ × X). eqb y e.0) (enumerate_from (at + 1) xs))) ≡ 0)
    by true e rest = let same : y ≡ at = eqb-true y at e in (let none = rest.1 (omega (arith, same)) in omega (arith, none), λ lt. absurd (omega (arith, same, lt)))
    by false e rest = (rest.0, λ lt. rest.1 (omega (arith, lt)))

module _ (level : PlacedLevel) (fit : PlacesFit level) where
  in_joined : (a n : ℕ) → In n (places (length level.buses)) → list_any (eqb n) (joined_places level a) ≡ joined (places (length level.buses)) (closed_pairs level) a n
  unfolding buses_joined
  in_joined a n i = in_places level fit a n (places_In n (length level.buses) i)

  -- the buses of a group have its places
  pub section_places : (a : ℕ) → map (λ e. e.0) (sections level a) ≡ joined_places level a
  unfolding sections at_places places joined_places group_of
  section_places a =
      sym (filter_map_of (λ n. list_any (eqb n) (joined_places level a)) (λ (e : ℕ × List ℕ). e.0) (enumerate_from 0 level.buses))
      ∙ ap (filter (λ n. list_any (eqb n) (joined_places level a))) (numbers_from 0 level.buses)
      ∙ filters_same (λ n. list_any (eqb n) (joined_places level a)) (joined (places (length level.buses)) (closed_pairs level) a) (places (length level.buses)) (in_joined a)

  pub section_count : (a : ℕ) → length (sections level a) ≡ length (joined_places level a)
  section_count a = sym (length-map (sections level a) (λ (e : ℕ × List ℕ). e.0)) ∙ ap length (section_places a)

  some_section : (a : ℕ) → a < length level.buses → 0 < length (sections level a)
  unfolding buses_joined
  some_section a lt =
      let here : In a (joined_places level a) = in_places level fit a a lt ∙ joined_refl (places (length level.buses)) (closed_pairs level) a in
      let some : 0 < length (joined_places level a) = some_member a (joined_places level a) here in
      let count = section_count a in
      omega (arith, some, count)

  feeders_fed : (a : ℕ) → All IsFed (feeders level a)
  unfolding feeders
  feeders_fed a = All-filter (at_nodes (joined_places level a)) IsFed (outlets_at level) (outlets_fed level fit)

  -- a bus is in a bus of the view where a terminal is connected there
  bus_is : (a : ℕ) → a < length level.buses → is_bus (translated_level level) a ≡ is_view_bus level a
  unfolding is_bus is_valid is_view_bus feeders outlets_at at_nodes
  bus_is a lt =
      let ss = map bus_section (sections level a) in
      let ts = map outlet_placed (feeders level a) in
      let bars : busbars (ss ++ ts) ≡ length (sections level a) = count_join (λ p. is_busbar p.stand) ss ts ∙ (let x = section_bars (sections level a) in let y = outlet_bars (feeders level a) (feeders_fed a) in omega (arith, x, y)) in
      let feds : fed (ss ++ ts) ≡ length (feeders level a) = count_join (λ p. is_feeder p.stand) ss ts ∙ (let x = section_fed (sections level a) in let y = outlet_fed (feeders level a) (feeders_fed a) in omega (arith, x, y)) in
      let some = some_section a lt in
      ap is_valid (standing level fit a lt)
      ∙ valid_by (busbars (ss ++ ts)) (count_by (λ p. is_branch_end p.stand) (ss ++ ts)) (fed (ss ++ ts)) (omega (arith, bars, some))
      ∙ ap (nat_le 1) feds
      ∙ any_counted (connects_among (joined_places level a)) (length level.buses) level.outlets

  -- a terminal that is not connected is no bus
  no_bus : (y : ℕ) → length level.buses ≤ y → (outlet_of level y).connected ≡ false → is_bus (translated_level level) y ≡ false
  unfolding is_bus is_valid outlets_at
  no_bus y b off =
      let es = filter (λ (e : ℕ × Outlet). eqb y e.0) (outlets_at level) in
      let feds : All IsFed es = All-filter (λ (e : ℕ × Outlet). eqb y e.0) IsFed (outlets_at level) (outlets_fed level fit) in
      let once = (numbered_once y (length level.buses) level.outlets).0 in
      let count = outlet_fed es feds in
      ap is_valid (standing_alone level fit y b off)
      ∙ invalid_by (busbars (map outlet_placed es)) (count_by (λ p. is_branch_end p.stand) (map outlet_placed es)) (fed (map outlet_placed es)) (outlet_bars es feds) (omega (arith, once, count))

  leaders_are : leaders bus (translated_level level) ≡ filter (is_least (places (node_total level)) (pairs_of level)) (places (node_total level))
  unfolding leaders least_nodes
  leaders_are =
      ap (λ z. filter (is_least z (passing bus (translated_level level))) z) (level_nodes level fit)
      ∙ ap (λ z. filter (is_least (places (node_total level)) z) (places (node_total level))) (level_passing level)

  -- none of the nodes behind the buses leads a bus
  behind_none : (n : ℕ) → In n (range_with_len (length level.buses) (length level.outlets)) → is_least (places (node_total level)) (pairs_of level) n ≡ true → is_bus (translated_level level) n ≡ false
  behind_none n i least =
      let r = range_In n (length level.buses) (length level.outlets) i in
      no_bus n r.0 (false_from_ne_true (outlet_of level n).connected (λ h. both_ways (is_least (places (node_total level)) (pairs_of level) n) (least_hanging level fit n r.0 r.1 h) least))

  -- the buses of the two views have the same places
  pub buses_led : filter (is_bus (translated_level level)) (leaders bus (translated_level level)) ≡ view_places level
  unfolding view_places first_places least_nodes
  buses_led =
      let low = places (length level.buses) in
      let high = range_with_len (length level.buses) (length level.outlets) in
      let least = is_least (places (node_total level)) (pairs_of level) in
      ap (filter (is_bus (translated_level level))) (leaders_are ∙ ap (filter least) (places_split level) ∙ filter-append least low high)
      ∙ filter-append (is_bus (translated_level level)) (filter least low) (filter least high)
      ∙ ap (λ z. filter (is_bus (translated_level level)) (filter least low) ++ z) (filter_neither (is_bus (translated_level level)) least high behind_none)
      ∙ append-nil (filter (is_bus (translated_level level)) (filter least low))
      ∙ ap (filter (is_bus (translated_level level))) (filters_same least (is_least low (closed_pairs level)) low (λ n i. least_bus level fit n (places_In n (length level.buses) i)))
      ∙ filters_same (is_bus (translated_level level)) (is_view_bus level) (filter (is_least low (closed_pairs level)) low) (λ n i. bus_is n (places_In n (length level.buses) (filter_In (is_least low (closed_pairs level)) n low i)))
