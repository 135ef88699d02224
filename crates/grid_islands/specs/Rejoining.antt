-- Labels of buses that are followed where the ends of some branches stand elsewhere.
use Rattle.std.specs.Prelude.{◌≡◌, ◌⊎◌, ℕ, ◌<◌, Bool, true, false, not, if◌then◌else◌, Option, Some, None, List, [], length, slice_get, slice_index, slice_index_or}
use Rattle.grid_graph.specs.Joined.{neighbours}
use Rattle.grid_queue.specs.Work.{is_in}
use Rattle.grid_islands.specs.declared.spots.BranchBuses.{BranchBuses}
use Rattle.grid_islands.specs.Spots.{pairs_of_buses}

-- ---- buses whose component is marked

-- the mark at a label
unfoldable pub mark_of : List Bool → Option ℕ → Bool
mark_of marks None = false
mark_of marks (Some label) = slice_index_or marks label false

-- the mark at a bus's label
unfoldable pub is_marked : List ℕ → List Bool → ℕ → Bool
is_marked labels marks bus = mark_of marks (slice_get labels bus)

-- the mark at a bus itself
abbrev pub has_mark : List Bool → ℕ → Bool
has_mark marks bus = slice_index_or marks bus false

-- that of the first of two buses that there is
unfoldable pub either_marked : (ℕ → Bool) → Option ℕ → Option ℕ → Bool
either_marked marked (Some first) second = marked first
either_marked marked None (Some second) = marked second
either_marked marked None None = false

-- the pairs of a branch, where its first end that stands in a bus has a mark
unfoldable pub marked_pairs : (ℕ → Bool) → BranchBuses → List (ℕ × ℕ)
marked_pairs marked branch = if either_marked marked branch.first branch.second then pairs_of_buses branch else []

-- the pairs of a branch, where its first end that stands in a bus has none
abbrev pub unmarked_pairs : (ℕ → Bool) → BranchBuses → List (ℕ × ℕ)
unmarked_pairs marked branch = marked_pairs (λ bus. not (marked bus)) branch

-- the labels of buses, but that each marked one is its own
pub record AreApart (labels : List ℕ) (marked : ℕ → Bool) (apart : List ℕ) : Type 0 where
  pub long : length apart ≡ length labels
  pub each : (bus : ℕ) → bus < length labels → slice_index apart bus ≡ (if marked bus then bus else slice_index labels bus)

-- ---- which buses are marked

-- each bus that a branch joins to another is marked
abbrev pub AreMarked : (ℕ → Bool) → BranchBuses → Type 0
AreMarked marked branch = (bus other : ℕ) → is_in (neighbours (pairs_of_buses branch) bus) other ≡ true → marked bus ≡ true

-- each branch has its ends where they stood before, or all buses that it joined and joins are marked
pub record AreOthersMarked (marked : ℕ → Bool) (before after : List BranchBuses) : Type 0 where
  pub long : length before ≡ length after
  pub each : (place : ℕ) (old new : BranchBuses) → slice_get before place ≡ Some old → slice_get after place ≡ Some new → (old ≡ new) ⊎ (AreMarked marked old × AreMarked marked new)
