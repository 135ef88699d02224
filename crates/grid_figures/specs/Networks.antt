-- What is kept of a network for every outage: its totals, and which levels have buses.
use Rattle.std.specs.Prelude.{◌≡◌, ℕ, ◌+◌, ◌<◌, ◌≤◌, ◌==◌, ◌&&◌, nat_lt, Bool, true, false, not, List, [], length, slice_index}
use Rattle.std.specs.List.{slice_index_or, list_any}
use Rattle.grid_unions.specs.declared.summed.Sums.{Sums}
use Rattle.grid_figures.specs.Figures.{total_sum}
use Rattle.grid_figures.specs.Outages.{level_sums, sums_before, is_changed}
use Rattle.grid_figures.specs.declared.outage.ChangedSums.{ChangedSums}
use Rattle.grid_figures.specs.declared.totals.Totals.{Totals}
use Rattle.grid_figures.specs.declared.network.Network.{Network}

-- how many buses with these sums there are, and their sums
pub record AreTotals (sums : List Sums) (totals : Totals) : Type 0 where
  pub buses : totals.buses ≡ length sums
  pub load : totals.load ≡ total_sum (λ s. s.load) sums
  pub generation : totals.generation ≡ total_sum (λ s. s.generation) sums

-- ---- levels with buses

-- the first level from one on that passes a test, or the count of levels
pub record IsNext (passes : ℕ → Bool) (count from next : ℕ) : Type 0 where
  pub low : from ≤ next
  pub high : next ≤ count
  pub before : (level : ℕ) → from ≤ level → level < next → passes level ≡ false
  pub here : next < count → passes next ≡ true

-- a level has kept buses
abbrev pub has_kept : List (List Sums) → ℕ → Bool
has_kept kept level = nat_lt 0 (length (slice_index_or kept level []))

-- it has kept buses, and is not changed
unfoldable pub is_free : List (List Sums) → List ChangedSums → ℕ → Bool
is_free kept changed level = has_kept kept level && not (is_changed changed level)

-- it is changed, and has buses then
unfoldable pub is_filled : List ChangedSums → ℕ → Bool
is_filled changed level = list_any (λ c. (c.level == level) && nat_lt 0 (length c.sums)) changed

-- it has buses where these levels are changed
abbrev pub has_buses : List (List Sums) → List ChangedSums → ℕ → Bool
has_buses kept changed level = nat_lt 0 (length (level_sums kept changed level))

-- for each level, and past the last one, the next that has kept buses
pub record AreNexts (kept : List (List Sums)) (nexts : List ℕ) : Type 0 where
  pub long : length nexts ≡ length kept + 1
  pub each : (level : ℕ) → level ≤ length kept → IsNext (has_kept kept) (length kept) level (slice_index nexts level)

-- what is kept of a network is right
pub record IsKept (network : Network) : Type 0 where
  pub totals : AreTotals (sums_before network.kept.now [] (length network.kept.now)) network.totals
  pub nexts : AreNexts network.kept.now network.nexts.items
