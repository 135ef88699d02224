-- The numbers of the buses at spots are those of the ends that stand there.
use Rattle.std.proofs.Common.{◌≡◌, refl, sym, ap, ◌∙◌, ℕ, zero, suc, ◌+◌, ◌<◌, ◌^◌, Bool, List, [], ◌∷◌, ◌++◌, length, get_or, map, take, arith, Option, Some, None}
use Rattle.std.specs.Prelude.{flat_map, slice_get, option_and_then}
use Rattle.std.specs.Option.{option_map}
use Rattle.std.proofs.lemmas.List.{map-append, take_more}
use Rattle.std.proofs.lemmas.Option.{get_or_from_slice_get, slice_get-get_or, slice_get_within, same_Some}
use Rattle.grid_graph.specs.Components.{places}
use Rattle.grid_graph.proofs.Counts.{at_place, long_places}
use Rattle.grid_level.specs.VoltageLevel.{VoltageLevel}
use Rattle.grid_level.specs.Passing.{nodes, positioned}
use Rattle.grid_structure.specs.declared.Branch.{Branch}
use Rattle.grid_structure.specs.declared.Branch.TheVariants.{Line, TwoWindings, ThreeWindings}
use Rattle.grid_structure.specs.declared.End.{End}
use Rattle.grid_structure.specs.declared.NamedBranch.{NamedBranch}
use Rattle.grid_structure.specs.Network.{Network}
use Rattle.grid_structure.specs.Sites.{levels, branches, branch_ends, find_level}
use Rattle.grid_busview.specs.Views.{bus_leasts, node_buses_of}
use Rattle.grid_states.specs.Rows.{row_at}
use Rattle.grid_islands.specs.declared.kept.KeptLevel.{KeptLevel}
use Rattle.grid_islands.specs.declared.kept.KeptBuses.{KeptBuses}
use Rattle.grid_islands.specs.declared.spots.Spot.{Spot}
use Rattle.grid_islands.specs.declared.spots.BranchSpots.{BranchSpots}
use Rattle.grid_islands.specs.declared.spots.BranchBuses.{BranchBuses}
use Rattle.grid_islands.specs.declared.numbering.Counts.{Counts}
use Rattle.grid_islands.specs.declared.components.Numbers.{Numbers}
use Rattle.grid_islands.specs.Numbering.{standing, buses_before, counted_from, node_numbers, numbered, number_of_node, number_of_end, pairs_of_branch, counts_before, numbered_pairs, IsCounted}
use Rattle.grid_islands.specs.Kept.{kept_of, AreKeptBefore, AreKept, IsFollowedBy, IsSpotted, IsMovedAt}
use Rattle.grid_islands.specs.Spots.{node_index, spot_at, spot_of_end, spots_of_branch, network_spots, number_of_spot, buses_of_spots, pairs_of_buses, NumbersFit}
use Rattle.grid_islands.proofs.LevelComponents.{level_exists, level_inside, ends_counted}
use Rattle.grid_islands.proofs.KeptLevels.{counts_stay}
use Rattle.grid_islands.proofs.LevelNumbers.{places_fit}
use Rattle.grid_islands.proofs.BusPlaces.{all_rows, all_long, row_read}
use Rattle.grid_islands.proofs.Nodes.{number_by_index}
use Rattle.grid_islands.proofs.BranchPairs.{none_among}

-- ---- an end's number, by its spot

-- what the rows have at a spot
abbrev row_number : List (List (Option ℕ)) → Spot → Option ℕ
row_number rows spot = get_or (get_or rows spot.level []) spot.node None

module _ (net : Network) (rows : List (List (Option ℕ))) (end : End) where
  by_node : (place : ℕ) (o : Option ℕ) → option_and_then (λ index. get_or (get_or rows place []) index None) o ≡ option_and_then (row_number rows) (option_map (spot_at place) o)
  by_node place (Some node) = refl
  by_node place None = refl

  by_level : (place : ℕ) (o : Option VoltageLevel) → option_and_then (λ level. number_of_node (nodes level) (get_or rows place []) end.node) o
      ≡ option_and_then (row_number rows) (option_and_then (λ level. option_map (spot_at place) (node_index (nodes level) end.node)) o)
  by_level place (Some level) = number_by_index (nodes level) (get_or rows place []) end.node ∙ by_node place (node_index (nodes level) end.node)
  by_level place None = refl

  end_by_spot : number_of_end net rows end ≡ option_and_then (row_number rows) (spot_of_end net end)
  unfolding number_of_end spot_of_end
  end_by_spot = by (find_level net end.level)
    where
      by : (o : Option ℕ) → option_and_then (λ place. option_and_then (λ level. number_of_node (nodes level) (get_or rows place []) end.node) (slice_get (levels net) place)) o
          ≡ option_and_then (row_number rows) (option_and_then (λ place. option_and_then (λ level. option_map (spot_at place) (node_index (nodes level) end.node)) (slice_get (levels net) place)) o)
      by (Some place) = by_level place (slice_get (levels net) place)
      by None = refl

-- ---- the number at a spot, by the first numbers and the places that are kept

counted_at : (first : ℕ) (row : List (Option ℕ)) (node : ℕ) → get_or (counted_from first row) node None ≡ option_and_then (option_map (λ place. first + place)) (slice_get row node)
unfolding counted_from
counted_at first [] node = refl
counted_at first (place ∷ row) zero = refl
counted_at first (place ∷ row) (suc node) = counted_at first row node

module _ (net : Network) (opened : List (List Bool)) (kept : KeptBuses) (every : AreKeptBefore net opened (length (levels net)) kept) (firsts : List ℕ)
    (counted : firsts ≡ map (buses_before opened (levels net)) (places (length (levels net)))) where
  abbrev before : ℕ → ℕ
  before = buses_before opened (levels net)

  abbrev rows : List (List (Option ℕ))
  rows = all_rows net opened opened

  first_at : (k : ℕ) → k < length (levels net) → slice_get firsts k ≡ Some (before k)
  first_at k lt =
      slice_get-get_or firsts k 0 (omega (arith, lt, long_places (length (levels net)) (buses_before opened (levels net)) firsts counted))
      ∙ ap Some (at_place (length (levels net)) (buses_before opened (levels net)) firsts k counted lt)

  at_level : (k : ℕ) (level : VoltageLevel) (node : ℕ) → slice_get (levels net) k ≡ Some level → number_of_spot firsts kept.levels (spot_at k node) ≡ row_number rows (spot_at k node)
  unfolding number_of_spot node_numbers kept_of standing
  at_level k level node at =
      let lt = slice_get_within (levels net) k level at in
      rw (first_at k lt, every k level lt at, row_read net opened opened k level at) (sym (counted_at (before k) (node_buses_of (positioned level (row_at opened k))).places node))

  at_node : (k : ℕ) (level : VoltageLevel) (o : Option ℕ) → slice_get (levels net) k ≡ Some level
      → option_and_then (number_of_spot firsts kept.levels) (option_map (spot_at k) o) ≡ option_and_then (row_number rows) (option_map (spot_at k) o)
  at_node k level (Some node) at = at_level k level node at
  at_node k level None at = refl

  spot_as : (end : End) → option_and_then (number_of_spot firsts kept.levels) (spot_of_end net end) ≡ number_of_end net rows end
  unfolding spot_of_end
  spot_as end = by (find_level net end.level) ∙ sym (end_by_spot net rows end)
    where
      here : (k : ℕ) (o : Option VoltageLevel) → slice_get (levels net) k ≡ o
          → option_and_then (number_of_spot firsts kept.levels) (option_and_then (λ level. option_map (spot_at k) (node_index (nodes level) end.node)) o)
          ≡ option_and_then (row_number rows) (option_and_then (λ level. option_map (spot_at k) (node_index (nodes level) end.node)) o)
      here k (Some level) at = at_node k level (node_index (nodes level) end.node) at
      here k None at = refl

      by : (o : Option ℕ) → option_and_then (number_of_spot firsts kept.levels) (option_and_then (λ place. option_and_then (λ level. option_map (spot_at place) (node_index (nodes level) end.node)) (slice_get (levels net) place)) o)
          ≡ option_and_then (row_number rows) (option_and_then (λ place. option_and_then (λ level. option_map (spot_at place) (node_index (nodes level) end.node)) (slice_get (levels net) place)) o)
      by (Some k) = here k (slice_get (levels net) k) refl
      by None = refl

  branch_as : (branch : Branch) → pairs_of_buses (buses_of_spots firsts kept.levels (spots_of_branch net branch)) ≡ pairs_of_branch net rows branch
  unfolding pairs_of_buses buses_of_spots spots_of_branch pairs_of_branch branch_ends
  branch_as (Line a b) = rw (spot_as a, spot_as b) (none_among (number_of_end net rows a) (number_of_end net rows b))
  branch_as (TwoWindings s a b u v) = rw (spot_as a, spot_as b) (none_among (number_of_end net rows a) (number_of_end net rows b))
  branch_as (ThreeWindings s a b c u v w) = rw (spot_as a, spot_as b, spot_as c) refl

  gathered_as : (bs : List NamedBranch) → flat_map pairs_of_buses (map (buses_of_spots firsts kept.levels) (map (λ b. spots_of_branch net b.shape) bs)) ≡ flat_map (λ b. pairs_of_branch net rows b.shape) bs
  gathered_as [] = refl
  gathered_as (b ∷ bs) = rw (branch_as b.shape, gathered_as bs) refl

  pub pairs_as : flat_map pairs_of_buses (map (buses_of_spots firsts kept.levels) (network_spots net)) ≡ flat_map (λ b. pairs_of_branch net (numbered net opened).rows b.shape) (branches net)
  unfolding network_spots numbered
  pairs_as = gathered_as (branches net)

  pub numbers_fit : (count : ℕ) → count ≡ before (length (levels net)) → count < 2 ^ 32 → NumbersFit firsts kept.levels
  unfolding kept_of standing node_buses_of
  numbers_fit count is few k node first place own at_first at_kept at_node =
      let lt : k < length (levels net) = omega (arith, slice_get_within firsts k first at_first, long_places (length (levels net)) (buses_before opened (levels net)) firsts counted) in
      let level = level_exists net k lt in
      let here = positioned level.0 (row_at opened k) in
      let same_first : first ≡ before k = same_Some first (before k) (sym at_first ∙ first_at k lt) in
      let same_own : own ≡ kept_of level.0 (row_at opened k) = same_Some own (kept_of level.0 (row_at opened k)) (sym at_kept ∙ every k level.0 lt level.1) in
      let places_own : own.buses.places ≡ (node_buses_of here).places = ap (λ (z : KeptLevel). z.buses.places) same_own in
      let read : get_or (node_buses_of here).places node None ≡ Some place = get_or_from_slice_get (node_buses_of here).places node (Some place) None (ap (λ z. slice_get z node) (sym places_own) ∙ at_node) in
      let fits : place < length (bus_leasts here) = places_fit here node place read in
      omega (arith, same_first, fits, level_inside net opened opened k level.0 level.1, all_long net opened opened, is, few)

-- where all levels are kept, the buses at the spots make the network's pairs
pub ends_counted_so : (net : Network) (opened : List (List Bool)) (kept : KeptBuses) (counts : Counts) (ends : List BranchBuses) (firsts : List ℕ) → AreKept net opened kept → kept.spots.branches ≡ network_spots net
    → counts ≡ counts_before opened (levels net) (length (levels net)) → firsts ≡ counts.firsts → ends ≡ map (buses_of_spots firsts kept.levels) kept.spots.branches → IsCounted net opened counts (flat_map pairs_of_buses ends)
unfolding counts_before numbered_pairs
ends_counted_so net opened kept counts ends firsts every spots is at made = record {
  counted = is;
  paired = ap (flat_map pairs_of_buses) (made ∙ ap (map (buses_of_spots firsts kept.levels)) spots) ∙ pairs_as net opened kept every firsts (at ∙ ap (λ (z : Counts). z.firsts) is);
}

-- where one level has other buses, the ends stand where they did by what was kept before
pub moved_at : (net : Network) (place : ℕ) (numbers : Numbers) (kept : KeptBuses) (opened : List (List Bool)) (firsts : List ℕ) (count : ℕ) (ends : List BranchBuses) (is : IsFollowedBy net place numbers kept) → AreKept net opened kept
    → IsSpotted net kept.spots → firsts ≡ numbers.counts.firsts → ends ≡ numbers.ends → count ≡ numbers.counts.count → IsMovedAt place is.before.levels kept firsts count ends
moved_at net place numbers kept opened firsts count ends is every spots at same counted = record {
  others = is.others;
  were = same ∙ is.were.ended ∙ ap (λ z. map (buses_of_spots z is.before.levels) (network_spots net)) (sym at) ∙ ap (map (buses_of_spots firsts is.before.levels)) (sym spots.branches);
  below = rw counted
      (ends_counted net opened opened numbers.counts (flat_map pairs_of_buses (map (buses_of_spots firsts kept.levels) kept.spots.branches))
      (ends_counted_so net opened kept numbers.counts (map (buses_of_spots firsts kept.levels) kept.spots.branches) firsts every spots.branches (counts_stay net place numbers kept opened is every) at refl));
}

-- ---- the spots of one branch more

pub spots_more : (net : Network) (bs : List NamedBranch) (i : ℕ) (now : List BranchSpots) (shape : Branch) → i < length bs → now ≡ map (λ b. spots_of_branch net b.shape) (take i bs)
    → option_map (λ b. b.shape) (slice_get bs i) ≡ Some shape → now ++ spots_of_branch net shape ∷ [] ≡ map (λ b. spots_of_branch net b.shape) (take (i + 1) bs)
spots_more net bs i now shape lt so_far at = by (slice_get bs i) refl at
  where
    by : (o : Option NamedBranch) → slice_get bs i ≡ o → option_map (λ b. b.shape) o ≡ Some shape → now ++ spots_of_branch net shape ∷ [] ≡ map (λ b. spots_of_branch net b.shape) (take (i + 1) bs)
    by (Some b) e h =
        let same : b.shape ≡ shape = cc in
        ap (λ z. now ++ spots_of_branch net z ∷ []) (sym same) ∙ ap (λ z. z ++ spots_of_branch net b.shape ∷ []) so_far
        ∙ sym (ap (map (λ b. spots_of_branch net b.shape)) (take_more bs i b lt ∙ ap (λ z. take i bs ++ z ∷ []) (get_or_from_slice_get bs i b b e)) ∙ map-append (λ b. spots_of_branch net b.shape) (take i bs) (b ∷ []))
    by None e h = absurd (cc)
