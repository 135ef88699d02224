-- Figures by lists of sums are those of the buses, and pairs and links are of what is there.
use Rattle.std.proofs.Common.{◌≡◌, refl, ap, ◌∙◌, ℕ, ℤ, pos, ◌+◌, ◌<◌, ◌+ℤ◌, Bool, true, false, cond, ◌&&◌, List, [], ◌∷◌, length, map, arith, Option, Some, None}
use Rattle.std.specs.Prelude.{eqb, ◌==◌, count_by, filter, fold, zip, flat_map, position, option_and_then}
use Rattle.std.specs.List.{enumerate_from, range_with_len}
use Rattle.std.proofs.lemmas.List.{length-map}
use Rattle.std.proofs.lemmas.List.Sums.{sum_by-cons}
use Rattle.std.proofs.lemmas.List.Elements.{All-nil, All-cons, All-append}
use Rattle.grid_graph.specs.Joined.{groups}
use Rattle.grid_graph.specs.Components.{places, component_number, component_numbers}
use Rattle.grid_graph.specs.Graph.{EndsBelow}
use Rattle.grid_structure.specs.declared.NamedBranch.{NamedBranch}
use Rattle.grid_structure.specs.declared.End.{End}
use Rattle.grid_structure.specs.Network.{Network}
use Rattle.grid_structure.specs.Sites.{branches, branch_ends, find_level}
use Rattle.grid_structure.proofs.Places.{position_found}
use Rattle.grid_busview.specs.declared.ViewBus.{ViewBus}
use Rattle.grid_islands.specs.Islands.{NetworkBus, holds, bus_at, pair_between, pairs_among, branch_pairs, bus_pairs}
use Rattle.grid_figures.specs.declared.Figures.{Figures}
use Rattle.grid_unions.specs.declared.summed.Sums.{Sums}
use Rattle.grid_screen.specs.Figures.{is_main, main_buses, sum_over, total_over, figures_over}
use Rattle.grid_figures.specs.Figures.{add_main, is_zero, main_sum, total_sum, figures_by}
use Rattle.grid_sums.specs.Sums.{bus_sums}

-- ---- the buses of component 0

module _ (f : ℕ → ℕ) where
  abbrev of_main : ℕ × NetworkBus → Bool
  of_main bus = f bus.0 == 0

  abbrev sums_at : NetworkBus → Sums
  sums_at b = bus_sums b.1

  main_counted : (low : ℕ) (all : List NetworkBus) → count_by is_zero (map f (range_with_len low (length all))) ≡ length (filter of_main (enumerate_from low all))
  main_counted low [] = refl
  main_counted low (b ∷ all) =
      let rest = main_counted (low + 1) all in
      let one = by (f low == 0) refl in
      omega (arith, sum_by-cons (λ x. cond (is_zero x) 1 0) (f low) (map f (range_with_len (low + 1) (length all))), rest, one)
    where
      more : List (ℕ × NetworkBus)
      more = filter of_main (enumerate_from (low + 1) all)

      by : (t : Bool) → (f low == 0) ≡ t → length (cond (f low == 0) ((low, b) ∷ more) more) ≡ cond (f low == 0) 1 0 + length more
      by true e = rw e (omega arith)
      by false e = rw e (omega arith)

  main_summed : (watts : Sums → ℤ) (low : ℕ) (total : ℤ) (all : List NetworkBus)
      → fold (add_main watts) total (zip (map f (range_with_len low (length all))) (map sums_at all)) ≡ fold (λ total (bus : ℕ × NetworkBus). total +ℤ watts (sums_at bus.1)) total (filter of_main (enumerate_from low all))
  main_summed watts low total [] = refl
  main_summed watts low total (b ∷ all) = by (f low == 0) (λ t. main_summed watts (low + 1) t all)
    where
      add : ℤ → ℕ × NetworkBus → ℤ
      add total bus = total +ℤ watts (sums_at bus.1)

      more : List (ℕ × NetworkBus)
      more = filter of_main (enumerate_from (low + 1) all)

      rest : List (ℕ × Sums)
      rest = zip (map f (range_with_len (low + 1) (length all))) (map sums_at all)

      by : (t : Bool) → ((total : ℤ) → fold (add_main watts) total rest ≡ fold add total more) → fold (add_main watts) (cond t (total +ℤ watts (sums_at b)) total) rest ≡ fold add total (cond t ((low, b) ∷ more) more)
      by true again = again (total +ℤ watts (sums_at b))
      by false again = again total

-- ---- all buses

all_summed : (watts : Sums → ℤ) (own : ViewBus → ℤ) → ((b : ViewBus) → watts (bus_sums b) ≡ own b) → (total : ℤ) (all : List NetworkBus)
    → fold (λ total (s : Sums). total +ℤ watts s) total (map (λ (b : NetworkBus). bus_sums b.1) all) ≡ fold (λ total (b : NetworkBus). total +ℤ own b.1) total all
all_summed watts own same total [] = refl
all_summed watts own same total (b ∷ all) =
    all_summed watts own same (total +ℤ watts (bus_sums b.1)) all ∙ ap (λ z. fold (λ total (b : NetworkBus). total +ℤ own b.1) (total +ℤ z) all) (same b.1)

-- ---- figures

unfoldable pub build : ℕ → ℕ → ℕ → (ℤ × ℤ) → (ℤ × ℤ) → Figures
build b n m own all = record { buses = b; components = n; main = m; load = own.0; generation = own.1; total_load = all.0; total_generation = all.1 }

pub figured : (all : List NetworkBus) (pairs : List (ℕ × ℕ)) → figures_by (map (λ (b : NetworkBus). bus_sums b.1) all) pairs ≡ figures_over all pairs
unfolding figures_by figures_over main_sum total_sum sum_over total_over main_buses is_main component_numbers places build
figured all pairs =
    let sums = map (λ (b : NetworkBus). bus_sums b.1) all in
    let n = length all in
    let long : length sums ≡ n = length-map all (λ (b : NetworkBus). bus_sums b.1) in
    let f = component_number n pairs in
    let main = filter (λ (bus : ℕ × NetworkBus). f bus.0 == 0) (enumerate_from 0 all) in
    let load = fold (λ total (bus : ℕ × NetworkBus). total +ℤ bus.1.1.load) (pos 0) main in
    let summed = λ (watts : Sums → ℤ). fold (add_main watts) (pos 0) (zip (map f (range_with_len 0 n)) sums) in
    let totals : ℤ × ℤ = (fold (λ total (s : Sums). total +ℤ s.load) (pos 0) sums, fold (λ total (s : Sums). total +ℤ s.generation) (pos 0) sums) in
    let total_load = fold (λ total (b : NetworkBus). total +ℤ b.1.load) (pos 0) all in
    ap (λ z. build z (length (groups (range_with_len 0 z) pairs)) (count_by is_zero (map (component_number z pairs) (range_with_len 0 z)))
    (fold (add_main (λ s. s.load)) (pos 0) (zip (map (component_number z pairs) (range_with_len 0 z)) sums), fold (add_main (λ s. s.generation)) (pos 0) (zip (map (component_number z pairs) (range_with_len 0 z)) sums)) totals) long
    ∙ ap (λ z. build n (length (groups (range_with_len 0 n) pairs)) z (summed (λ s. s.load), summed (λ s. s.generation)) totals) (main_counted f 0 all)
    ∙ ap (λ z. build n (length (groups (range_with_len 0 n) pairs)) (length main) (z, summed (λ s. s.generation)) totals) (main_summed f (λ s. s.load) 0 (pos 0) all)
    ∙ ap (λ z. build n (length (groups (range_with_len 0 n) pairs)) (length main) (load, z) totals) (main_summed f (λ s. s.generation) 0 (pos 0) all)
    ∙ ap (λ z. build n (length (groups (range_with_len 0 n) pairs)) (length main) (load, fold (λ total (bus : ℕ × NetworkBus). total +ℤ bus.1.1.generation) (pos 0) main) (z, totals.1)) (all_summed (λ s. s.load) (λ b. b.load) (λ b. refl) (pos 0) all)
    ∙ ap (λ z. build n (length (groups (range_with_len 0 n) pairs)) (length main) (load, fold (λ total (bus : ℕ × NetworkBus). total +ℤ bus.1.1.generation) (pos 0) main) (total_load, z)) (all_summed (λ s. s.generation) (λ b. b.generation) (λ b. refl) (pos 0) all)

-- ---- the pairs are of buses

module _ (net : Network) (all : List NetworkBus) where
  abbrev Below : Option ℕ → Type 0
  Below o = (k : ℕ) → o ≡ Some k → k < length all

  end_below : (end : End) → Below (bus_at net all end)
  unfolding bus_at
  end_below end k e = by (find_level net end.level) e
    where
      by : (o : Option ℕ) → option_and_then (λ level. position (λ b. eqb b.0 level && holds b.1.nodes end.node) all) o ≡ Some k → k < length all
      by (Some level) h = (position_found (λ b. eqb b.0 level && holds b.1.nodes end.node) all k h).0
      by None h = absurd (cc)

  abbrev OfBuses : ℕ × ℕ → Type 0
  OfBuses pair = (pair.0 < length all) × (pair.1 < length all)

  between_below : (a b : Option ℕ) → Below a → Below b → EndsBelow (pair_between a b) (length all)
  unfolding pair_between
  between_below None b f g = All-nil OfBuses
  between_below (Some x) None f g = All-nil OfBuses
  between_below (Some x) (Some y) f g = All-cons OfBuses (x, y) [] (f x refl, g y refl) (All-nil OfBuses)

  each_below : (a : Option ℕ) (ends : List End) → Below a → EndsBelow (flat_map (pair_between a) (map (bus_at net all) ends)) (length all)
  each_below a [] f = All-nil OfBuses
  each_below a (end ∷ ends) f =
      All-append OfBuses (pair_between a (bus_at net all end)) (flat_map (pair_between a) (map (bus_at net all) ends)) (between_below a (bus_at net all end) f (end_below end)) (each_below a ends f)

  among_below : (ends : List End) → EndsBelow (pairs_among (map (bus_at net all) ends)) (length all)
  unfolding pairs_among
  among_below [] = All-nil OfBuses
  among_below (end ∷ ends) =
      All-append OfBuses (flat_map (pair_between (bus_at net all end)) (map (bus_at net all) ends)) (pairs_among (map (bus_at net all) ends)) (each_below (bus_at net all end) ends (end_below end)) (among_below ends)

  of_branches : (bs : List NamedBranch) → EndsBelow (flat_map (branch_pairs net all) bs) (length all)
  unfolding branch_pairs
  of_branches [] = All-nil OfBuses
  of_branches (b ∷ bs) =
      All-append OfBuses (branch_pairs net all b) (flat_map (branch_pairs net all) bs) (among_below (branch_ends b.shape)) (of_branches bs)

  pub pairs_below : EndsBelow (bus_pairs net all) (length all)
  unfolding bus_pairs
  pairs_below = of_branches (branches net)
