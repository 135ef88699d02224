-- The ends of branches by the levels in which they stand, each with the one before it.
use Rattle.std.specs.Prelude.{◌≡◌, ◌⊎◌, ℕ, ◌<◌, ◌≤◌, true, Option, Some, List, length, slice_get}
use Rattle.grid_islands.specs.declared.level_ends.LevelEnd.{LevelEnd}
use Rattle.grid_islands.specs.declared.level_ends.LevelEnds.{LevelEnds}
use Rattle.grid_islands.specs.declared.spots.BranchSpots.{BranchSpots}
use Rattle.grid_islands.specs.Spots.{touches}

-- the last of the ends before a bound that stand in a level
pub record IsLastBefore (ends : List LevelEnd) (bound level : ℕ) (at : Option ℕ) : Type 0 where
  pub there : (place : ℕ) → at ≡ Some place → (place < bound) × ((end : LevelEnd) × (slice_get ends place ≡ Some end) × (end.level ≡ level))
  pub others : (place : ℕ) (end : LevelEnd) → place < bound → slice_get ends place ≡ Some end → end.level ≡ level → (last : ℕ) × (at ≡ Some last) × (place ≤ last)

-- from the last end of a level each leads to the one before it there
pub record AreLinked (ends : List LevelEnd) (lasts : List (Option ℕ)) : Type 0 where
  pub lasting : (level : ℕ) (at : Option ℕ) → slice_get lasts level ≡ Some at → IsLastBefore ends (length ends) level at
  pub before : (place : ℕ) (end : LevelEnd) → slice_get ends place ≡ Some end → IsLastBefore ends place end.level end.before

-- an end of the branch stands in the level
pub record HasEnd (index : LevelEnds) (level branch : ℕ) : Type 0 where
  pub place : ℕ
  pub end : LevelEnd
  pub found : slice_get index.ends place ≡ Some end
  pub of_level : end.level ≡ level
  pub of_branch : end.branch ≡ branch

-- some ends of a branch more, behind those that are there
pub record IsMore (old new : LevelEnds) (branch : ℕ) : Type 0 where
  pub long : length new.lasts ≡ length old.lasts
  pub linked : AreLinked new.ends new.lasts
  pub kept : (place : ℕ) (end : LevelEnd) → slice_get old.ends place ≡ Some end → slice_get new.ends place ≡ Some end
  pub sound : (place : ℕ) (end : LevelEnd) → slice_get new.ends place ≡ Some end → (slice_get old.ends place ≡ Some end) ⊎ (end.branch ≡ branch)

-- the ends before a bound among these branches, in each of the levels
pub record IsIndexBefore (branches : List BranchSpots) (bound : ℕ) (index : LevelEnds) : Type 0 where
  pub linked : AreLinked index.ends index.lasts
  pub below : (place : ℕ) (end : LevelEnd) → slice_get index.ends place ≡ Some end → end.branch < bound
  pub each : (level place : ℕ) (branch : BranchSpots) → place < bound → level < length index.lasts → slice_get branches place ≡ Some branch → touches level branch ≡ true → HasEnd index level place

-- those of all these branches
abbrev pub IsIndexOf : List BranchSpots → LevelEnds → Type 0
IsIndexOf branches index = IsIndexBefore branches (length branches) index
