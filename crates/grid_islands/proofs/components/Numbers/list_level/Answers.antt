use Rattle.std.proofs.Common.{◌≡◌, sym, ap, ◌∙◌, ℕ, ◌+◌, ◌<◌, ◌≤◌, Bool, List, length, get_or, map, arith}
use Rattle.std.specs.Prelude.{count_by}
use Rattle.std.proofs.lemmas.Result.{IfOk-weaker}
use Rattle.std.specs.List.{enumerate_from, slice_range}
use Rattle.std.proofs.lemmas.List.{get_or-map, length-map}
use Rattle.grid_structure.specs.Network.{Network}
use Rattle.grid_structure.specs.Sites.{levels}
use Rattle.grid_groups.proofs.Lists.{get_or_any}
use Rattle.grid_islands.specs.Islands.{level_components}
use Rattle.grid_graph.specs.Components.{component_numbers}
use Rattle.grid_components.specs.Ranks.{is_key, ranks_at}
use Rattle.grid_islands.specs.declared.components.Numbers.{Numbers}
use Rattle.grid_islands.specs.declared.numbering.Counts.{Counts}
use Rattle.grid_islands.specs.Numbering.{buses_before, listed, bus_components, AreNumbers, IsOwn}
use Rattle.grid_islands.proofs.LevelRanks.{part_at, part_long, listed_part}
use Rattle.grid_islands.proofs.LevelComponents.{level_exists, level_inside, listed_as, numbers_long, firsts_counted, first_counted, numbers_joined, total, joining}
use Rattle.grid_islands.proofs.components.Numbers.list_level.Goals as goal
use Rattle.grid_islands.proofs.components.Numbers.list_level.Goals.{After-slice-4}

-- the ranks at the labels of the level's buses
abbrev part : Numbers → ℕ → ℕ → List ℕ
part numbers first count = ranks_at numbers.ranks (slice_range numbers.labels first (first + count))

module _ (net : Network) (opened retained : List (List Bool)) (numbers : Numbers) (level : ℕ) (leasts : List ℕ) (first : ℕ) (are : AreNumbers net opened numbers) (is : IsOwn net opened level leasts)
    (index : first ≡ get_or numbers.counts.firsts level first) where
  joined : bus_components numbers ≡ component_numbers (total net opened retained) (joining net opened retained)
  joined = are.components ∙ numbers_joined net opened retained

  long : length (bus_components numbers) ≡ length numbers.labels
  long = length-map numbers.labels (λ n. get_or numbers.ranks n 0)

  first_is : first ≡ buses_before opened (levels net) level
  first_is =
      index ∙ get_or_any numbers.counts.firsts level first 0 (omega (arith, is.inside, ap (λ (z : Counts). length z.firsts) are.counts, firsts_counted net opened retained))
      ∙ ap (λ (z : Counts). get_or z.firsts level 0) are.counts ∙ first_counted net opened retained level is.inside

  buses_there : first + length leasts ≤ length numbers.labels
  buses_there =
      let here = level_exists net level is.inside in
      omega (arith, first_is, ap length (is.own here.0 here.1), long, numbers_long net opened retained (bus_components numbers) joined, level_inside net opened retained level here.0 here.1)

  labels_there : (k : ℕ) → k < length (slice_range numbers.labels first (first + length leasts)) → get_or (slice_range numbers.labels first (first + length leasts)) k 0 < length numbers.ranks
  labels_there k lt =
      let inside : k < length leasts = omega (arith, lt, part_long numbers.labels first (length leasts) buses_there) in
      omega (arith, part_at numbers.labels first (length leasts) k inside, are.ranked (first + k) (omega (arith, inside, buses_there)))

  part_is_long : length (part numbers first (length leasts)) ≡ length leasts
  part_is_long = length-map (slice_range numbers.labels first (first + length leasts)) (λ n. get_or numbers.ranks n 0) ∙ part_long numbers.labels first (length leasts) buses_there

  part_is : (i : ℕ) → i < length leasts → get_or (part numbers first (length leasts)) i 0 ≡ get_or (bus_components numbers) (first + i) 0
  part_is i lt =
      let rank : ℕ → ℕ = λ n. get_or numbers.ranks n 0 in
      let labels = slice_range numbers.labels first (first + length leasts) in
      get_or-map rank labels i 0 0 (omega (arith, lt, part_long numbers.labels first (length leasts) buses_there)) ∙ ap rank (part_at numbers.labels first (length leasts) i lt)
      ∙ sym (get_or-map rank numbers.labels (first + i) 0 0 (omega (arith, lt, buses_there)))

  sizes_there : (k : ℕ) → k < length (part numbers first (length leasts)) → get_or (part numbers first (length leasts)) k 0 < length numbers.sizes
  sizes_there k lt =
      let inside : k < length leasts = omega (arith, lt, part_is_long) in
      omega (arith, part_is k inside, are.below (first + k) (omega (arith, inside, buses_there)))

  sizes_are : (v : ℕ) → v < length (bus_components numbers) → get_or numbers.sizes (get_or (bus_components numbers) v 0) 0 ≡ count_by (is_key (get_or (bus_components numbers) v 0)) (bus_components numbers)
  sizes_are v lt = are.sizes (get_or (bus_components numbers) v 0) (are.below v (omega (arith, lt, long)))

  list_is : map (listed (part numbers first (length leasts)) numbers.sizes) (enumerate_from 0 leasts) ≡ level_components net opened retained level
  list_is =
      let here = level_exists net level is.inside in
      let all = bus_components numbers in
      listed_part (part numbers first (length leasts)) all numbers.sizes leasts 0 first (λ i lt. (let same : 0 + i ≡ i = omega arith in ap (λ z. get_or (part numbers first (length leasts)) z 0) same ∙ part_is i lt))
      ∙ ap (λ z. map (listed all numbers.sizes) (enumerate_from z leasts)) first_is ∙ ap (λ z. map (listed all numbers.sizes) (enumerate_from (buses_before opened (levels net) level) z)) (is.own here.0 here.1)
      ∙ listed_as net opened retained all numbers.sizes level here.0 joined sizes_are here.1

pub index-requires : goal.index-requires
index-requires c =
    let net = c.requires.own.0 in
    let opened = c.requires.own.1 in
    omega (arith, c.requires.own.2.1.inside, ap (λ (z : Counts). length z.firsts) c.requires.own.2.0.counts, firsts_counted net opened opened)

pub slice_bounds-labels-end : goal.slice_bounds-labels-end
slice_bounds-labels-end c =
    let own = c.requires.own in
    omega (arith, buses_there own.0 own.1 own.1 c.args.self.now c.args.level c.args.leasts.now c.index.result.now own.2.0 own.2.1 c.index.ensures, ap length c.slice.ensures)

pub list_ranks-requires : goal.list_ranks-requires
list_ranks-requires c =
    let own = c.requires.own in
    rw (c.slice.ensures, c.slice-2.ensures) (labels_there own.0 own.1 own.1 c.args.self.now c.args.level c.args.leasts.now c.index.result.now own.2.0 own.2.1 c.index.ensures)

-- the numbers that are listed
numbers_are : (c : After-slice-4) → c.slice-3.result.now ≡ part c.args.self.now c.index.result.now (length c.args.leasts.now)
numbers_are c =
    c.slice-3.ensures ∙ c.in_ok-numbers.ensures ∙ ap (λ z. ranks_at z (slice_range c.slice.result.now c.index.result.now (c.index.result.now + length c.args.leasts.now))) c.slice-2.ensures
    ∙ ap (λ z. ranks_at c.args.self.now.ranks (slice_range z c.index.result.now (c.index.result.now + length c.args.leasts.now))) c.slice.ensures

pub list_components-requires-clause-buses : goal.list_components-requires-clause-buses
list_components-requires-clause-buses c =
    let own = c.requires.own in
    omega (arith, ap length (numbers_are (goal.at.list_components-requires-clause-buses c).After-slice-4), part_is_long own.0 own.1 own.1 c.args.self.now c.args.level c.args.leasts.now c.index.result.now own.2.0 own.2.1 c.index.ensures)

pub list_components-requires-clause-sizes : goal.list_components-requires-clause-sizes
list_components-requires-clause-sizes c =
    let own = c.requires.own in
    rw (numbers_are (goal.at.list_components-requires-clause-sizes c).After-slice-4, c.slice-4.ensures) (sizes_there own.0 own.1 own.1 c.args.self.now c.args.level c.args.leasts.now c.index.result.now own.2.0 own.2.1 c.index.ensures)

pub returns : goal.returns
returns c =
    let at = (goal.at.returns c).After-slice-4 in
    let leasts = c.args.leasts.now in
    IfOk-weaker c.list_components.result (λ list. list ≡ map (listed c.slice-3.result.now c.slice-4.result.now) (enumerate_from 0 leasts))
    (λ list. (net : Network) (opened retained : List (List Bool)) → AreNumbers net opened c.args.self.now → IsOwn net opened c.args.level leasts → list ≡ level_components net opened retained c.args.level)
    (λ list e net opened retained are is. e ∙ ap (λ z. map (listed z c.slice-4.result.now) (enumerate_from 0 leasts)) (numbers_are at)
    ∙ ap (λ z. map (listed (part c.args.self.now c.index.result.now (length leasts)) z) (enumerate_from 0 leasts)) c.slice-4.ensures
    ∙ list_is net opened retained c.args.self.now c.args.level leasts c.index.result.now are is c.index.ensures)
    c.list_components.ensures
