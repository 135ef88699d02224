-- The buses of levels as the changes show them: their sums, their numbers, and which bus holds a node.
use Rattle.std.proofs.Common.{◌≡◌, refl, sym, ap, ◌∙◌, subst, ℕ, ℤ, zero, suc, ◌+◌, ◌<◌, ◌≤◌, Bool, ◌&&◌, List, [], ◌∷◌, ◌++◌, length, length-append, get_or, map, take, arith, Option, Some, None}
use Rattle.std.specs.Prelude.{eqb, flat_map, position, slice_get, Box}
use Rattle.std.specs.declared.alloc.Global.{Global}
use Rattle.std.specs.List.{enumerate_from, range_with_len, sum_by}
use Rattle.std.specs.Option.{option_map}
use Rattle.std.proofs.lemmas.List.{length-map, get_or-map, map-append}
use Rattle.std.proofs.lemmas.List.Sums.{sum_by-cons}
use Rattle.grid_lemmas.proofs.Lists.{map_twice, position_map, some_got}
use Rattle.grid_lemmas.proofs.Options.{none_added}
use Rattle.grid_graph.specs.Components.{places}
use Rattle.grid_level.specs.VoltageLevel.{VoltageLevel}
use Rattle.grid_level.specs.Passing.{nodes, positioned}
use Rattle.grid_powers.specs.Listed.{Listed}
use Rattle.grid_states.specs.Rows.{row_at}
use Rattle.grid_busview.specs.declared.ViewBus.{ViewBus}
use Rattle.grid_busview.specs.Views.{bus_of, bus_view_of, bus_leasts, node_buses_of, record_watts}
use Rattle.grid_watts.specs.Watts.{level_watts}
use Rattle.grid_islands.specs.Islands.{NetworkBus, holds, buses_in}
use Rattle.grid_islands.specs.Numbering.{counted_from, number_of_node}
use Rattle.grid_islands.proofs.Blocks.{position_in}
use Rattle.grid_islands.proofs.LevelNumbers.{level_at, level_within}
use Rattle.grid_islands.proofs.BusPlaces.{buses_as, number_as}
use Rattle.grid_outages.specs.declared.outage.Changed.{Changed}
use Rattle.grid_unions.specs.declared.summed.Sums.{Sums}
use Rattle.grid_sums.specs.Sums.{bus_sums, buses_under, sums_of}
use Rattle.grid_outages.specs.Changes.{Changes, change_at, buses_over, level_sums, present_sums, sums_in, sums_before, IsLooked, IsLookedAt}
use Rattle.grid_outages.specs.Steps.{Stands}
use Rattle.grid_outages.proofs.ShownLevels.{Change, level_changed, level_kept, row_changed, row_kept, length-shown_levels}
use Rattle.std.proofs.lemmas.Option.{slice_get_within}

-- ---- lists by place

-- what is made of each place of a list, from a low one on
same_blocks : {X Y : Type 0} (f : ℕ → List Y) (g : ℕ × X → List Y) (low : ℕ) (xs : List X) → ((j : ℕ) (x : X) → slice_get xs j ≡ Some x → f (low + j) ≡ g (low + j, x)) → flat_map f (range_with_len low (length xs)) ≡ flat_map g (enumerate_from low xs)
same_blocks f g low [] h = refl
same_blocks f g low (x ∷ xs) h =
    let first : f low ≡ g (low, x) = (let z : low + 0 ≡ low = omega arith in subst (λ k. f k ≡ g (k, x)) z (h 0 x refl)) in
    rw (first, same_blocks f g (low + 1) xs (λ j y at. let z : low + suc j ≡ (low + 1) + j = omega arith in subst (λ k. f k ≡ g (k, y)) z (h (suc j) y at))) refl

-- how many items the places before one make
front_blocks : {X Y : Type 0} (f : ℕ → List Y) (count : ℕ × X → ℕ) (low k : ℕ) (xs : List X) → k ≤ length xs → ((j : ℕ) (x : X) → slice_get xs j ≡ Some x → length (f (low + j)) ≡ count (low + j, x))
    → length (flat_map f (range_with_len low k)) ≡ sum_by count (take k (enumerate_from low xs))
front_blocks f count low zero xs le h = refl
front_blocks f count low (suc k) [] le h = absurd (omega arith)
front_blocks f count low (suc k) (x ∷ xs) le h =
    let z : low + 0 ≡ low = omega arith in
    let first : length (f low) ≡ count (low, x) = subst (λ i. length (f i) ≡ count (i, x)) z (h 0 x refl) in
    let rest = front_blocks f count (low + 1) k xs (omega arith) (λ j y at. let w : low + suc j ≡ (low + 1) + j = omega arith in subst (λ i. length (f i) ≡ count (i, y)) w (h (suc j) y at)) in
    omega (arith, length-append (f low) (flat_map f (range_with_len (low + 1) k)), first, rest, sum_by-cons count (low, x) (take k (enumerate_from (low + 1) xs)))

map_flat : {X Y Z : Type 0} (h : Y → Z) (g : X → List Y) (xs : List X) → map h (flat_map g xs) ≡ flat_map (λ x. map h (g x)) xs
map_flat h g [] = refl
map_flat h g (x ∷ xs) = map-append h (g x) (flat_map g xs) ∙ ap (λ z. map h (g x) ++ z) (map_flat h g xs)

-- ---- the bus that holds a node

counted_none : (row : List (Option ℕ)) → counted_from 0 row ≡ row
unfolding counted_from
counted_none [] = refl
counted_none (None ∷ row) = ap (λ z. None ∷ z) (counted_none row)
counted_none (Some k ∷ row) = let same : 0 + k ≡ k = omega arith in rw same (ap (λ z. Some k ∷ z) (counted_none row))

held_alike : (listed : Listed) (level : VoltageLevel) (opened retained : List Bool) (z : ℤ) → position (λ b. holds b.nodes z) (buses_under listed level opened) ≡ position (λ b. holds b.nodes z) (buses_in level opened retained)
unfolding buses_under bus_view_of bus_leasts bus_of
held_alike listed level opened retained z =
    let here = positioned level opened in
    position_map (λ b. holds b.nodes z) (bus_of here (level_watts listed level)) (bus_leasts here)
    ∙ sym (ap (position (λ b. holds b.nodes z)) (buses_as level opened retained) ∙ position_map (λ b. holds b.nodes z) (bus_of here (record_watts level)) (bus_leasts here))

-- the place among a level's buses of the one that holds a node
pub held_at : (listed : Listed) (level : VoltageLevel) (opened : List Bool) (z : ℤ) → position (λ b. holds b.nodes z) (buses_under listed level opened) ≡ number_of_node (nodes level) (node_buses_of (positioned level opened)).places z
held_at listed level opened z =
    let at = position (λ b. holds b.nodes z) (buses_in level opened opened) in
    held_alike listed level opened opened z ∙ sym (none_added at) ∙ sym (number_as level opened opened 0 z)
    ∙ ap (λ row. number_of_node (nodes level) row z) (counted_none (node_buses_of (positioned level opened)).places)

-- ---- the present levels

module _ (listed : Listed) (before : List VoltageLevel) (flags : List (List Bool)) (changes : Changes) (ls : List VoltageLevel) (rows : List (List Bool)) (s : Stands listed before flags changes ls rows) where
  abbrev pub kept : List (List Sums)
  kept = level_sums listed before flags

  kept_at : (k : ℕ) (l : VoltageLevel) → slice_get before k ≡ Some l → get_or kept k [] ≡ sums_of listed l (row_at flags k)
  unfolding level_sums
  kept_at k l at =
      get_or-map (λ (at : ℕ × VoltageLevel). sums_of listed at.1 (row_at flags at.0)) (enumerate_from 0 before) k (k, l) [] (level_within before k l at)
      ∙ ap (λ (at : ℕ × VoltageLevel). sums_of listed at.1 (row_at flags at.0)) (level_at before k l (k, l) at)

  some_same : {X : Type 0} {x y : X} → ◌≡◌ {A = Option X} (Some x) (Some y) → x ≡ y
  some_same e = cc

  -- a level that is as before
  pub same_level : (k : ℕ) (l m : VoltageLevel) → change_at changes k ≡ None → slice_get before k ≡ Some l → slice_get ls k ≡ Some m → l ≡ m
  same_level k l m none at now = some_same (sym (ap (λ z. slice_get z k) (sym s.levels_are) ∙ level_kept changes before k l s.long at none) ∙ now)

  pub same_row : (k : ℕ) → change_at changes k ≡ None → row_at rows k ≡ row_at flags k
  same_row k none = ap (λ z. row_at z k) (sym s.rows_are) ∙ row_kept changes flags k (s.long ∙ sym s.rows_long) none

  long : length ls ≡ length before
  long = ap length (sym s.levels_are) ∙ length-shown_levels changes before s.long

  -- a level that has changed
  pub own_level : (k : ℕ) (m : VoltageLevel) (c : Box Changed Global) → change_at changes k ≡ Some c → slice_get ls k ≡ Some m → c.value.level ≡ m
  unfolding long
  own_level k m c some now = some_same (sym (ap (λ z. slice_get z k) (sym s.levels_are) ∙ level_changed changes before k c s.long (omega (arith, slice_get_within ls k m now, long)) some) ∙ now)

  pub own_row : (k : ℕ) (c : Box Changed Global) → change_at changes k ≡ Some c → row_at rows k ≡ c.value.opened
  own_row k c some = ap (λ z. row_at z k) (sym s.rows_are) ∙ row_changed changes flags k c (s.long ∙ sym s.rows_long) some

  pub looked_at : (k : ℕ) (c : Box Changed Global) → change_at changes k ≡ Some c → IsLooked listed c.value
  looked_at k c some = subst (IsLookedAt listed) some (s.looked k)

  -- the sums of a level
  pub sums_are : (k : ℕ) (m : VoltageLevel) → slice_get ls k ≡ Some m → present_sums kept changes k ≡ sums_of listed m (row_at rows k)
  unfolding present_sums long
  sums_are k m now = by (change_at changes k) refl
    where
      by : (o : Change) → change_at changes k ≡ o → sums_in kept o k ≡ sums_of listed m (row_at rows k)
      by None e =
          let l = some_got before k (omega (arith, slice_get_within ls k m now, long)) in
          kept_at k l.0 l.1 ∙ ap (λ z. sums_of listed z (row_at flags k)) (same_level k l.0 m e l.1 now) ∙ ap (sums_of listed m) (sym (same_row k e))
      by (Some c) e = (looked_at k c e).sums ∙ ap (λ z. sums_of listed z c.value.opened) (own_level k m c e now) ∙ ap (sums_of listed m) (sym (own_row k c e))

  abbrev pub all : List NetworkBus
  all = buses_over listed ls rows

  abbrev pub own_sums : NetworkBus → Sums
  own_sums b = bus_sums b.1

  -- those of all buses
  pub all_sums : sums_before kept changes (length before) ≡ map own_sums all
  unfolding sums_before places buses_over sums_of long
  all_sums =
      ap (λ z. flat_map (present_sums kept changes) (range_with_len 0 z)) (sym long)
      ∙ same_blocks (present_sums kept changes) (λ at. sums_of listed at.1 (row_at rows at.0)) 0 ls (λ j l at. let z : 0 + j ≡ j = omega arith in rw z (sums_are j l at))
      ∙ sym (map_flat own_sums (λ at. map (λ b. (at.0, b)) (buses_under listed at.1 (row_at rows at.0))) (enumerate_from 0 ls)
      ∙ each_block (enumerate_from 0 ls))
    where
      each_block : (xs : List (ℕ × VoltageLevel)) → flat_map (λ (at : ℕ × VoltageLevel). map own_sums (map (λ b. (at.0, b)) (buses_under listed at.1 (row_at rows at.0)))) xs ≡ flat_map (λ (at : ℕ × VoltageLevel). map bus_sums (buses_under listed at.1 (row_at rows at.0))) xs
      each_block [] = refl
      each_block (at ∷ xs) = rw (map_twice own_sums (λ (b : ViewBus). (at.0, b)) (buses_under listed at.1 (row_at rows at.0)), each_block xs) refl

  abbrev pub bus_total : ℕ × VoltageLevel → ℕ
  bus_total at = length (buses_under listed at.1 (row_at rows at.0))

  -- the number of a level's first bus
  pub first_number : (k : ℕ) → k < length before → length (sums_before kept changes k) ≡ sum_by bus_total (take k (enumerate_from 0 ls))
  unfolding sums_before places sums_of long
  first_number k lt =
      front_blocks (present_sums kept changes) bus_total 0 k ls (omega (arith, lt, long)) (λ j l at. let z : 0 + j ≡ j = omega arith in rw z (ap length (sums_are j l at) ∙ length-map (buses_under listed l (row_at rows j)) bus_sums))

  -- the number of the bus that holds a node of the level at a place
  pub bus_number : (k : ℕ) (m : VoltageLevel) (z : ℤ) → k < length before → slice_get ls k ≡ Some m
      → position (λ b. eqb b.0 k && holds b.1.nodes z) all ≡ option_map (λ p. length (sums_before kept changes k) + p) (number_of_node (nodes m) (node_buses_of (positioned m (row_at rows k))).places z)
  unfolding buses_over
  bus_number k m z lt at =
      position_in (λ at. buses_under listed at.1 (row_at rows at.0)) bus_total (λ at. refl) 0 k k (λ b. holds b.nodes z) ls m (omega arith) at
      ∙ ap (λ n. option_map (λ p. n + p) (position (λ b. holds b.nodes z) (buses_under listed m (row_at rows k)))) (sym (first_number k lt))
      ∙ ap (option_map (λ p. length (sums_before kept changes k) + p)) (held_at listed m (row_at rows k) z)
