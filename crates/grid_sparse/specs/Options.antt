-- Options by their places, and those of them that are there.
use Rattle.std.specs.Prelude.{◌≡◌, ℕ, ◌<◌, ◌≤◌, Option, None, Some, IsSome, List, length, map, All}
use Rattle.std.specs.List.{slice_index_or, range_with_len, enumerate_from, filter_map}
use Rattle.std.specs.Option.{option_map}

-- the options at the places below a count, each given by its place
abbrev pub options : {X : Type 0} → (ℕ → Option X) → ℕ → List (Option X)
options at count = map at (range_with_len 0 count)

-- from a place on it gives none
abbrev pub IsNoneFrom : {X : Type 0} → ℕ → (ℕ → Option X) → Type 0
IsNoneFrom place at = (k : ℕ) → place ≤ k → at k ≡ None

-- a place with the value there, where it is there
abbrev pub pair_at : {X : Type 0} → ℕ × Option X → Option (ℕ × X)
pair_at at = option_map (λ x. (at.0, x)) at.1

-- those that are there with their places, by rising place
unfoldable pub present : {X : Type 0} → List (Option X) → List (ℕ × X)
present xs = filter_map pair_at (enumerate_from 0 xs)

-- each of these pairs has the value that is there
abbrev pub AreThere : {X : Type 0} → List (Option X) → List (ℕ × X) → Type 0
AreThere xs pairs = All (λ pair. slice_index_or xs pair.0 None ≡ Some pair.1) pairs

-- from a place on none is there
abbrev pub AreNoneFrom : {X : Type 0} → ℕ → List (Option X) → Type 0
AreNoneFrom place xs = IsNoneFrom place (λ k. slice_index_or xs k None)

-- the first that is there from a place on is at this one
pub record IsFirstFrom {X : Type 0} (place : ℕ) (xs : List (Option X)) (at : ℕ) : Type 0 where
  pub from : place ≤ at
  pub inside : at < length xs
  pub there : IsSome (slice_index_or xs at None)
  pub none : (k : ℕ) → place ≤ k → k < at → slice_index_or xs k None ≡ None
