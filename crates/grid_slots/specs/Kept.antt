-- States that are kept, each once, under numbers from 0 on; by place, each variant has the number of its own.
use Rattle.std.specs.Prelude.{◌≡◌, ◌≢◌, ℕ, ◌<◌, Bool, List, length, map, All, Contains, is_some}
use Rattle.std.specs.List.{slice_index_or, list_any}
use Rattle.grid_states.specs.Pairs.{value_at}
use Rattle.grid_states.specs.Rows.{Rows, no_rows, pairs_at}

abbrev pub rows_in_place : List Rows → ℕ → Rows
rows_in_place all place = slice_index_or all place no_rows

-- the rows of each variant
unfoldable pub kept_rows : List ℕ → List Rows → List Rows
kept_rows numbers states = map (rows_in_place states) numbers

-- each variant has the number of states that are kept, and no states are kept that none has
pub record AreKept (numbers : List ℕ) (count : ℕ) : Type 0 where
  pub within : All (λ n. n < count) numbers
  pub used : (k : ℕ) → k < count → Contains numbers k

-- the same, but that none need have this number
pub record AreKeptBut (numbers : List ℕ) (count number : ℕ) : Type 0 where
  pub within : All (λ n. n < count) numbers
  pub used : (k : ℕ) → k < count → k ≢ number → Contains numbers k

abbrev pub number_at : List ℕ → ℕ → ℕ
number_at numbers place = slice_index_or numbers place 0

-- no other place has the number of this one
abbrev pub IsSole : List ℕ → ℕ → Type 0
IsSole numbers place = (i : ℕ) → i < length numbers → i ≢ place → number_at numbers i ≢ number_at numbers place

-- another place has the number of this one
pub record IsShared (numbers : List ℕ) (place : ℕ) : Type 0 where
  pub other : ℕ
  pub below : other < length numbers
  pub apart : other ≢ place
  pub same : number_at numbers other ≡ number_at numbers place

-- all have the same rows as before, and the one at a place now has its states alone, under this number
pub record IsOwn (old_numbers : List ℕ) (old_states : List Rows) (numbers : List ℕ) (states : List Rows)
    (place own : ℕ) : Type 0 where
  pub rows : kept_rows numbers states ≡ kept_rows old_numbers old_states
  pub kept : AreKept numbers (length states)
  pub named : number_at numbers place ≡ own
  pub sole : IsSole numbers place

-- some of these rows list watts for this node of a level
unfoldable pub any_rows_list : List Rows → ℕ → ℕ → Bool
any_rows_list all level node = list_any (λ rows. is_some (value_at node (pairs_at rows.watts level))) all

-- rows of each variant
pub record EachRows : Type 0 where
  pub items : List Rows
