-- The bus view of a level in node/breaker form tells its configured view.
use Rattle.std.proofs.Common.{◌≡◌, refl, sym, ap, ◌∙◌, ℕ, ◌+◌, ◌≤◌, ◌∷◌, Bool, true, false, cond, List, [], ◌++◌, length, take, drop, arith}
use Rattle.std.specs.Prelude.{nat_lt, map, filter, count_by}
use Rattle.std.specs.List.{enumerate_from, slice_index_or}
use Rattle.std.proofs.lemmas.Bool.{lt-ltb, le-ltb}
use Rattle.std.proofs.lemmas.List.{length-map, take_at, drop_at}
use Rattle.std.proofs.lemmas.List.Sums.{sum_by-append, sum_by-cons}
use Rattle.grid_lemmas.proofs.Lists.{map_twice}
use Rattle.grid_graph.specs.Joined.{joined, group_of}
use Rattle.grid_graph.specs.Components.{places}
use Rattle.grid_graph.proofs.Reach.{In, In_here, In_there}
use Rattle.grid_graph.proofs.Places.{places_In}
use Rattle.grid_level.specs.declared.Terminal.{Terminal}
use Rattle.grid_groups.proofs.Lists.{filter_In}
use Rattle.grid_busview.specs.Views.{record_watts, bus_view_of}
use Rattle.grid_placed.specs.Places.{Outlet, PlacedLevel, PlacesFit, closed_pairs, joined_places}
use Rattle.grid_placed.specs.Translation.{bus_terminal, outlets_at, translated_level}
use Rattle.grid_placed.specs.Views.{connects_among, outlets_among, nodes_among, view_places, outlet_records, group_bus, group_view}
use Rattle.grid_placed.proofs.BusViews.{map_In, records_are, view_shown}
use Rattle.grid_configured.specs.declared.view.ConfiguredBus.{ConfiguredBus}
use Rattle.grid_configured.specs.Views.{configured_bus, configured_view}
use Rattle.grid_configured.specs.Viewed.{section_total, told_bus, told_view}

all_counted : (p : ℕ → Bool) (xs : List ℕ) → ((n : ℕ) → In n xs → p n ≡ true) → count_by p xs ≡ length xs
all_counted p [] h = refl
all_counted p (x ∷ xs) h =
    let rest = all_counted p xs (λ n i. h n (In_there n x xs i)) in
    sum_by-cons (λ y. cond (p y) 1 0) x xs ∙ ap (λ t. cond t 1 0 + count_by p xs) (h x (In_here x xs)) ∙ omega (arith, rest)

-- numbers of items that pass a test are none below the first
kept_past : {X : Type 0} (test : X → Bool) (count at : ℕ) (xs : List X) → count ≤ at → count_by (λ n. nat_lt n count) (map (λ (e : ℕ × X). e.0) (filter (λ e. test e.1) (enumerate_from at xs))) ≡ 0
kept_past test count at [] le = refl
kept_past {X} test count at (x ∷ xs) le = by (test x) (kept_past test count (at + 1) xs (omega (arith, le)))
  where
    rest : List (ℕ × X)
    rest = filter (λ e. test e.1) (enumerate_from (at + 1) xs)

    by : (t : Bool) → count_by (λ n. nat_lt n count) (map (λ (e : ℕ × X). e.0) rest) ≡ 0 → count_by (λ n. nat_lt n count) (map (λ (e : ℕ × X). e.0) (cond t ((at, x) ∷ rest) rest)) ≡ 0
    by true none =
        sum_by-cons (λ y. cond (nat_lt y count) 1 0) at (map (λ (e : ℕ × X). e.0) rest)
        ∙ ap (λ t. cond t 1 0 + count_by (λ n. nat_lt n count) (map (λ (e : ℕ × X). e.0) rest)) (le-ltb at count le) ∙ omega (arith, none)
    by false none = none

module _ (level : PlacedLevel) where
  bus_total : (a : ℕ) → section_total (length level.buses) (joined_places level a ++ nodes_among level (joined_places level a)) ≡ length (joined_places level a)
  unfolding section_total joined_places group_of nodes_among outlets_at
  bus_total a =
      let low = places (length level.buses) in
      let test = joined low (closed_pairs level) a in
      let behind = nodes_among level (joined_places level a) in
      let one : count_by (λ n. nat_lt n (length level.buses)) (filter test low) ≡ length (filter test low)
      = all_counted (λ n. nat_lt n (length level.buses)) (filter test low) (λ n i. lt-ltb n (length level.buses) (places_In n (length level.buses) (filter_In test n low i))) in
      let two = kept_past (connects_among (joined_places level a)) (length level.buses) (length level.buses) level.outlets (omega arith) in
      sum_by-append (λ n. cond (nat_lt n (length level.buses)) 1 0) (filter test low) behind ∙ omega (arith, one, two)

  bus_told : (a : ℕ) → told_bus (length level.buses) (group_bus level (outlet_records level) a) ≡ configured_bus level a
  unfolding told_bus group_bus configured_bus
  bus_told a =
      let group = joined_places level a in
      let own = map (λ k. bus_terminal (slice_index_or level.buses k [])) group in
      let others = map (λ (t : Outlet). t.terminal) (outlets_among level group) in
      let k = section_total (length level.buses) (group ++ nodes_among level group) in
      let long : length own ≡ k = length-map group (λ k. bus_terminal (slice_index_or level.buses k [])) ∙ sym (bus_total a) in
      let front : map (λ (t : Terminal). t.equipment) (take k (own ++ others)) ≡ map (λ k. slice_index_or level.buses k []) group
      = ap (map (λ (t : Terminal). t.equipment)) (take_at own others k long)
      ∙ map_twice (λ (t : Terminal). t.equipment) (λ k. bus_terminal (slice_index_or level.buses k [])) group in
      let back : drop k (own ++ others) ≡ others = drop_at own others k long in
      rw (front, back) refl

  -- the view of the node/breaker form tells the configured view
  pub view_told : PlacesFit level → told_view (length level.buses) (bus_view_of (translated_level level) (record_watts (translated_level level))) ≡ configured_view level
  unfolding told_view group_view configured_view
  view_told fit =
      ap (told_view (length level.buses)) (view_shown level fit (record_watts (translated_level level)) ∙ ap (group_view level) (records_are level))
      ∙ ap (λ (z : List ConfiguredBus). record { level = level.id; buses = z })
      (map_twice (told_bus (length level.buses)) (group_bus level (outlet_records level)) (view_places level)
      ∙ map_In (λ a. told_bus (length level.buses) (group_bus level (outlet_records level) a)) (configured_bus level) (view_places level) (λ a i. bus_told a))
