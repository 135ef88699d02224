-- The substations in blocks of 256, each with a sum of what is counted of them.
use Rattle.std.specs.Prelude.{ℕ, ◌+◌, ◌-◌, ◌*◌, ◌/◌, ◌<◌, ◌≤◌, ◌≡◌, nat_lt, if◌then◌else◌, List, [], ◌∷◌, ◌++◌, length, take, drop, slice_index}
use Rattle.std.specs.List.{sum_by}
use Rattle.grid_structure.specs.declared.structure.Head.{Head}
use Rattle.grid_structure.specs.declared.heads.Own.{Own}
use Rattle.grid_structure.specs.declared.heads.Own.TheVariants.{Levels, Transformers}

abbrev pub count_of : Own → Head → ℕ
count_of Levels h = h.levels
count_of Transformers h = h.transformers

-- the place of the substation whose own go so far
unfoldable pub place_by : (Head → ℕ) → List Head → ℕ → ℕ
place_by count [] k = 0
place_by count (h ∷ heads) k = if nat_lt k (count h) then 0 else place_by count heads (k - count h) + 1

-- each block has its sum, and the blocks reach to the end
pub record AreSums (count : Head → ℕ) (heads : List Head) (sums : List ℕ) : Type 0 where
  pub each : (k : ℕ) → k < length sums → slice_index sums k ≡ sum_by count (take 256 (drop (256 * k) heads))
  pub all : length heads ≤ 256 * length sums

pub record HasSums (heads : List Head) (level_sums transformer_sums : List ℕ) : Type 0 where
  pub levels : AreSums (count_of Levels) heads level_sums
  pub transformers : AreSums (count_of Transformers) heads transformer_sums

-- the blocks that reach beyond this many substations
abbrev pub opened : ℕ → List ℕ → List ℕ
opened count sums = if nat_lt (count / 256) (length sums) then sums else sums ++ 0 ∷ []
