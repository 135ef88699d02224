-- The buses of a level with their components, from the numbers of all buses.
use Rattle.std.proofs.Common.{◌≡◌, refl, sym, ap, ◌∙◌, subst, ℕ, zero, suc, ◌+◌, ◌<◌, ◌≤◌, Bool, List, [], ◌∷◌, length, get_or, take, arith, Option, Some}
use Rattle.std.proofs.lemmas.List.{length-map}
use Rattle.std.specs.Prelude.{map, flat_map, slice_get, count_by}
use Rattle.std.specs.List.{enumerate_from, sum_by}
use Rattle.std.proofs.lemmas.List.FromFn.{length-enumerate_from}
use Rattle.std.proofs.lemmas.List.Sums.{sum_by-cons}
use Rattle.std.proofs.lemmas.Option.{slice_get_within}
use Rattle.grid_graph.specs.Components.{places, component_of, component_number, component_numbers}
use Rattle.grid_graph.specs.Graph.{graph, EndsBelow}
use Rattle.grid_graph.proofs.Below.{pairs_below as fit_below}
use Rattle.grid_graph.proofs.Counts.{at_place, long_places}
use Rattle.grid_components.specs.Ranks.{is_key}
use Rattle.grid_level.specs.VoltageLevel.{VoltageLevel}
use Rattle.grid_level.specs.Passing.{positioned}
use Rattle.grid_structure.specs.Network.{Network}
use Rattle.grid_structure.specs.Sites.{levels, branches}
use Rattle.grid_busview.specs.declared.ViewBus.{ViewBus}
use Rattle.grid_busview.specs.Views.{record_watts, bus_of, bus_leasts}
use Rattle.grid_states.specs.Rows.{row_at}
use Rattle.grid_islands.specs.declared.BusComponent.{BusComponent}
use Rattle.grid_islands.specs.Islands.{buses_in, buses_at, network_buses, bus_pairs, component_at, level_components}
use Rattle.grid_islands.specs.declared.numbering.Counts.{Counts}
use Rattle.grid_islands.specs.declared.numbering.Numbered.{Numbered}
use Rattle.grid_islands.specs.Numbering.{node_numbers, numbered, numbered_pairs, standing, bus_count, buses_before, counts_before, pairs_of_branch, listed, IsCounted}
use Rattle.grid_islands.proofs.Blocks.{kept}
use Rattle.grid_islands.proofs.LevelNumbers.{before_more}
use Rattle.grid_islands.proofs.BusPlaces.{buses_as, counted_as, all, all_rows, all_long, pairs_as, pairs_below}
use Rattle.grid_islands.proofs.ComponentSizes.{size_as}

-- no less in a longer front
sum_by-fronts : {X : Type 0} (f : X → ℕ) (xs : List X) (i j : ℕ) → i ≤ j → sum_by f (take i xs) ≤ sum_by f (take j xs)
sum_by-fronts f [] zero zero le = omega arith
sum_by-fronts f [] zero (suc j) le = omega arith
sum_by-fronts f [] (suc i) zero le = absurd (omega arith)
sum_by-fronts f [] (suc i) (suc j) le = omega arith
sum_by-fronts f (x ∷ xs) zero j le = none (sum_by f (take j (x ∷ xs)))
  where
    none : (n : ℕ) → sum_by f [] ≤ n
    none n = omega arith
sum_by-fronts f (x ∷ xs) (suc i) zero le = absurd (omega arith)
sum_by-fronts f (x ∷ xs) (suc i) (suc j) le =
    let rest = sum_by-fronts f xs i j (omega arith) in
    omega (arith, rest, sum_by-cons f x (take i xs), sum_by-cons f x (take j xs))

-- the buses of one level, each made of its number and its least node
made_as : (numbers sizes : List ℕ) (count : ℕ) (pairs : List (ℕ × ℕ)) (k : ℕ) (made : ℕ → ViewBus) → ((least : ℕ) → (made least).least ≡ least)
    → ((v : ℕ) → v < count → get_or numbers v 0 ≡ component_number count pairs v) → ((v : ℕ) → v < count → get_or sizes (component_number count pairs v) 0 ≡ length (component_of count pairs v))
    → (n : ℕ) (leasts : List ℕ) → n + length leasts ≤ count
    → map (listed numbers sizes) (enumerate_from n leasts) ≡ map (component_at count pairs) (enumerate_from n (map (λ b. (k, b)) (map made leasts)))
unfolding listed component_at
made_as numbers sizes count pairs k made same number size n [] le = refl
made_as numbers sizes count pairs k made same number size n (least ∷ leasts) le =
    let lt : n < count = omega arith in
    let build : ℕ → ℕ → ℕ → BusComponent = λ x y z. record { least = x; component = y; size = z } in
    let rest = made_as numbers sizes count pairs k made same number size (n + 1) leasts (omega arith) in
    ap (λ z. build least z (get_or sizes z 0) ∷ map (listed numbers sizes) (enumerate_from (n + 1) leasts)) (number n lt)
    ∙ ap (λ z. build least (component_number count pairs n) z ∷ map (listed numbers sizes) (enumerate_from (n + 1) leasts)) (size n lt)
    ∙ ap (λ z. build z (component_number count pairs n) (length (component_of count pairs n)) ∷ map (listed numbers sizes) (enumerate_from (n + 1) leasts)) (sym (same least))
    ∙ ap (λ z. build (made least).least (component_number count pairs n) (length (component_of count pairs n)) ∷ z) rest

-- there is a level at each place below their number
pub level_exists : (net : Network) (place : ℕ) → place < length (levels net) → (level : VoltageLevel) × (slice_get (levels net) place ≡ Some level)
level_exists net place h = got (levels net) place h
  where
    got : (ls : List VoltageLevel) (k : ℕ) → k < length ls → (l : VoltageLevel) × (slice_get ls k ≡ Some l)
    got [] k h = absurd (omega arith)
    got (l ∷ ls) zero h = (l, refl)
    got (l ∷ ls) (suc k) h = got ls k (omega arith)

module _ (net : Network) (opened retained : List (List Bool)) where
  abbrev pub total : ℕ
  total = length (all net opened retained)

  abbrev pub joining : List (ℕ × ℕ)
  joining = bus_pairs net (all net opened retained)

  pub pairs_now : (rows : List (List (Option ℕ))) (pairs : List (ℕ × ℕ)) → rows ≡ all_rows net opened retained → pairs ≡ flat_map (λ b. pairs_of_branch net rows b.shape) (branches net) → pairs ≡ joining
  pairs_now rows pairs e f = f ∙ ap (λ z. flat_map (λ b. pairs_of_branch net z b.shape) (branches net)) e ∙ pairs_as net opened retained

  pub numbers_long : (numbers : List ℕ) → numbers ≡ component_numbers total joining → length numbers ≡ total
  unfolding component_numbers
  numbers_long numbers e = long_places total (component_number total joining) numbers e

  number_at : (numbers : List ℕ) (v : ℕ) → numbers ≡ component_numbers total joining → v < total → get_or numbers v 0 ≡ component_number total joining v
  unfolding component_numbers
  number_at numbers v e lt = at_place total (component_number total joining) numbers v e lt

  size_at : (numbers sizes : List ℕ) (v : ℕ) → numbers ≡ component_numbers total joining → ((v : ℕ) → v < length numbers → get_or sizes (get_or numbers v 0) 0 ≡ count_by (is_key (get_or numbers v 0)) numbers)
      → v < total → get_or sizes (component_number total joining v) 0 ≡ length (component_of total joining v)
  size_at numbers sizes v e each lt =
      let fit = fit_below total joining (pairs_below net opened retained) in
      let P : ℕ → Type 0 = λ z. get_or sizes z 0 ≡ count_by (is_key z) numbers in
      subst P (number_at numbers v e lt) (each v (omega (arith, lt, numbers_long numbers e)))
      ∙ ap (count_by (is_key (component_number total joining v))) e ∙ size_as (graph total joining) fit v lt

  -- what the calls before give
  module _ (made : Numbered) (as_numbered : made ≡ numbered net opened) where
    pub count_as : made.count ≡ total
    unfolding numbered
    count_as = ap (λ z. z.count) as_numbered ∙ sym (all_long net opened retained)

    pub rows_long : length made.rows ≡ length (levels net)
    unfolding numbered
    rows_long = ap (λ z. length z.rows) as_numbered ∙ length-map (enumerate_from 0 (levels net)) (node_numbers opened (levels net)) ∙ length-enumerate_from 0 (levels net)

    pub firsts_long : length made.firsts ≡ length (levels net)
    unfolding numbered
    firsts_long = ap (λ z. length z.firsts) as_numbered ∙ long_places (length (levels net)) (buses_before opened (levels net)) (map (buses_before opened (levels net)) (places (length (levels net)))) refl

    pub first_as : (k : ℕ) → k < length (levels net) → get_or made.firsts k 0 ≡ buses_before opened (levels net) k
    unfolding numbered
    first_as k lt = at_place (length (levels net)) (buses_before opened (levels net)) made.firsts k (ap (λ z. z.firsts) as_numbered) lt

    pub pairs_made : (rows : List (List (Option ℕ))) (pairs ps : List (ℕ × ℕ)) → rows ≡ made.rows → pairs ≡ flat_map (λ b. pairs_of_branch net rows b.shape) (branches net) → ps ≡ pairs → ps ≡ joining
    unfolding numbered
    pairs_made rows pairs ps e f g = g ∙ pairs_now rows pairs (e ∙ ap (λ z. z.rows) as_numbered) f

    pub ends_made : (ps : List (ℕ × ℕ)) → ps ≡ joining → EndsBelow ps made.count
    ends_made ps e = rw (e, count_as) (pairs_below net opened retained)

    pub numbers_made : (ps : List (ℕ × ℕ)) (numbers : List ℕ) → ps ≡ joining → numbers ≡ component_numbers made.count ps → numbers ≡ component_numbers total joining
    numbers_made ps numbers e f = f ∙ ap (λ z. component_numbers z ps) count_as ∙ ap (component_numbers total) e

  -- the same, of what is counted
  pub total_counted : (counts_before opened (levels net) (length (levels net))).count ≡ total
  unfolding counts_before
  total_counted = sym (all_long net opened retained)

  pub firsts_counted : length (counts_before opened (levels net) (length (levels net))).firsts ≡ length (levels net)
  unfolding counts_before
  firsts_counted = long_places (length (levels net)) (buses_before opened (levels net)) (map (buses_before opened (levels net)) (places (length (levels net)))) refl

  pub first_counted : (k : ℕ) → k < length (levels net) → get_or (counts_before opened (levels net) (length (levels net))).firsts k 0 ≡ buses_before opened (levels net) k
  unfolding counts_before
  first_counted k inside = at_place (length (levels net)) (buses_before opened (levels net)) (map (buses_before opened (levels net)) (places (length (levels net)))) k refl inside

  pub pairs_joining : numbered_pairs net opened ≡ joining
  unfolding numbered_pairs numbered
  pairs_joining = pairs_as net opened retained

  pub numbers_joined : component_numbers (counts_before opened (levels net) (length (levels net))).count (numbered_pairs net opened) ≡ component_numbers total joining
  numbers_joined = ap (λ z. component_numbers z (numbered_pairs net opened)) total_counted ∙ ap (component_numbers total) pairs_joining

  module _ (counts : Counts) (pairs : List (ℕ × ℕ)) (is : IsCounted net opened counts pairs) where
    pub counts_total : counts.count ≡ total
    counts_total = ap (λ (z : Counts). z.count) is.counted ∙ total_counted

    pub ends_counted : EndsBelow pairs counts.count
    ends_counted = rw (is.paired ∙ pairs_joining, counts_total) (pairs_below net opened retained)

    pub numbers_counted : component_numbers counts.count pairs ≡ component_numbers total joining
    numbers_counted = ap (λ z. component_numbers z pairs) counts_total ∙ ap (component_numbers total) (is.paired ∙ pairs_joining)

  -- a level's numbers are of buses
  pub level_inside : (k : ℕ) (level : VoltageLevel) → slice_get (levels net) k ≡ Some level → buses_before opened (levels net) k + length (bus_leasts (standing opened (k, level))) ≤ total
  unfolding buses_before
  level_inside k level at =
      let more = before_more opened (levels net) k level at in
      let whole = all_long net opened retained in
      let within = sum_by-fronts (bus_count opened) (enumerate_from 0 (levels net)) (k + 1) (length (levels net)) (omega (arith, slice_get_within (levels net) k level at)) in
      omega (arith, more, whole, within)

  pub listed_as : (numbers sizes : List ℕ) (k : ℕ) (level : VoltageLevel) → numbers ≡ component_numbers total joining → ((v : ℕ) → v < length numbers → get_or sizes (get_or numbers v 0) 0 ≡ count_by (is_key (get_or numbers v 0)) numbers)
      → slice_get (levels net) k ≡ Some level → map (listed numbers sizes) (enumerate_from (buses_before opened (levels net) k) (bus_leasts (standing opened (k, level)))) ≡ level_components net opened retained k
  unfolding level_components network_buses buses_at buses_before standing bus_of
  listed_as numbers sizes k level e each at =
      let here = positioned level (row_at opened k) in
      let first = buses_before opened (levels net) k in
      let watts = record_watts level in
      let same : 0 + first ≡ first = omega arith in
      made_as numbers sizes total joining k (bus_of here watts) (λ least. refl) (λ v lt. number_at numbers v e lt) (λ v lt. size_at numbers sizes v e each lt) first (bus_leasts here) (level_inside k level at)
      ∙ ap (map (component_at total joining))
      (ap (λ z. enumerate_from first (map (λ b. (k, b)) z)) (sym (buses_as level (row_at opened k) (row_at retained k)))
      ∙ ap (λ z. enumerate_from z (map (λ b. (k, b)) (buses_in level (row_at opened k) (row_at retained k)))) (sym same)
      ∙ sym (kept (λ at. buses_in at.1 (row_at opened at.0) (row_at retained at.0)) (bus_count opened) (counted_as opened retained) 0 0 k k (levels net) level (omega arith) at))
