-- The ends of branches where one level alone has other buses: what is no longer where it stood is marked.
use Rattle.std.proofs.Common.{◌≡◌, sym, ap, ◌∙◌, ℕ, ◌<◌, Bool, List, length, get_or, map, inl, inr, Some, None}
use Rattle.std.specs.Prelude.{slice_get}
use Rattle.std.specs.Option.{option_map}
use Rattle.std.proofs.lemmas.Bool.{cases_Bool}
use Rattle.std.proofs.lemmas.List.{length-map}
use Rattle.std.proofs.lemmas.Option.{same_Some, slice_get_within, slice_get-get_or, slice_get-map}
use Rattle.grid_islands.specs.declared.kept.KeptLevel.{KeptLevel}
use Rattle.grid_islands.specs.declared.kept.KeptBuses.{KeptBuses}
use Rattle.grid_islands.specs.declared.spots.BranchBuses.{BranchBuses}
use Rattle.grid_islands.specs.declared.spots.BranchSpots.{BranchSpots}
use Rattle.grid_islands.specs.Kept.{IsMovedAt}
use Rattle.grid_islands.specs.LevelEnds.{HasEnd, IsIndexOf}
use Rattle.grid_islands.specs.Rejoining.{AreMarked, AreOthersMarked}
use Rattle.grid_islands.specs.Spots.{buses_of_spots, touches}
use Rattle.grid_islands.proofs.LevelFronts.{branch_left}

-- the branches that have an end in a level are marked
pub record IsLevelMarked (kept : KeptBuses) (level : ℕ) (m : ℕ → Bool) (buses : List BranchBuses) : Type 0 where
  pub each : (branch : ℕ) (own : BranchBuses) → HasEnd kept.spots.index level branch → slice_get buses branch ≡ Some own → AreMarked m own

-- an item of a mapped list
mapped : (f : BranchSpots → BranchBuses) (xs : List BranchSpots) (k : ℕ) (x : BranchSpots) (y : BranchBuses) → slice_get xs k ≡ Some x → slice_get (map f xs) k ≡ Some y → y ≡ f x
mapped f xs k x y at there = same_Some y (f x) (sym there ∙ slice_get-map f xs k ∙ ap (option_map f) at)

no_spots : BranchSpots
no_spots = record { first = None; second = None; third = None }

module _ (level : ℕ) (before : List KeptLevel) (kept : KeptBuses) (firsts : List ℕ) (count : ℕ) (old new : List BranchBuses) (moved : IsMovedAt level before kept firsts count old) where
  pub old_long : length old ≡ length kept.spots.branches
  old_long = ap length moved.were ∙ length-map kept.spots.branches (buses_of_spots firsts before)

  module _ (is : new ≡ map (buses_of_spots firsts kept.levels) kept.spots.branches) where
    pub new_long : length new ≡ length kept.spots.branches
    new_long = ap length is ∙ length-map kept.spots.branches (buses_of_spots firsts kept.levels)

    pub others_marked : (m : ℕ → Bool) → IsIndexOf kept.spots.branches kept.spots.index → level < length kept.spots.index.lasts → IsLevelMarked kept level m old → IsLevelMarked kept level m new → AreOthersMarked m old new
    others_marked m index inside old_marked new_marked = record {
      long = old_long ∙ sym new_long;
      each = λ place one other at there.
          (let lt : place < length kept.spots.branches = rw (← new_long) (slice_get_within new place other there) in
          let spots = (slice_get-get_or kept.spots.branches place no_spots lt) in
          let was = mapped (buses_of_spots firsts before) kept.spots.branches place _ one spots (ap (λ z. slice_get z place) (sym moved.were) ∙ at) in
          let now = mapped (buses_of_spots firsts kept.levels) kept.spots.branches place _ other spots (ap (λ z. slice_get z place) (sym is) ∙ there) in
          elim (cases_Bool (touches level (get_or kept.spots.branches place no_spots))) [
            | inl on ↦ (let has = index.each level place _ lt inside spots on in inr (old_marked.each place one has at, new_marked.each place other has there))
            | inr off ↦ inl (was ∙ sym (branch_left firsts before kept.levels level moved.others _ off) ∙ sym now)
          ]);
    }
