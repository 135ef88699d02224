-- Watts by byte order of ids, and two sums.
use Rattle.std.specs.Prelude.{ℕ, ℤ, ◌+ℤ◌, Option, List, []}
use Rattle.std.specs.Ordering.{nat_cmp}
use Rattle.std.specs.Cmp.Lexicographic.{slice_cmp}
use Rattle.std.specs.List.Sorted.{IsStrictlySortedBy}
use Rattle.std.specs.Map.{lookup, remove_entry, keys_of}
use Rattle.std.specs.BTreeMap.{insert_entry}
use Rattle.grid_ids.specs.Name.{same_id}

-- pairs of an id and its watts
abbrev pub Listed : Type 0
Listed = List (List ℕ × ℤ)

-- the watts that are listed for an id, where some are
abbrev pub value_in : Listed → List ℕ → Option ℤ
value_in pairs id = lookup (same_id id) pairs

-- with these watts for an id: in place of the former ones, or else at its place by byte order
abbrev pub with_value : List ℕ → ℤ → Listed → Listed
with_value id watts pairs = insert_entry (slice_cmp nat_cmp) pairs id watts

-- without the pair of an id
abbrev pub without_value : List ℕ → Listed → Listed
without_value id pairs = remove_entry (same_id id) pairs

-- each id stands before all later ones, so that all differ
abbrev pub IsByOrder : Listed → Type 0
IsByOrder pairs = IsStrictlySortedBy (slice_cmp nat_cmp) (keys_of pairs)

-- what is listed, and the two sums
pub record PowerList : Type 0 where
  pub listed : Listed
  pub load : ℤ
  pub generation : ℤ

-- nothing listed, and these sums
abbrev pub opening_of : ℤ → ℤ → PowerList
opening_of load generation = record { listed = []; load = load; generation = generation }

-- both sums changed by these differences
abbrev pub shifted : ℤ → ℤ → PowerList → PowerList
shifted load generation powers = record powers { load = powers.load +ℤ load; generation = powers.generation +ℤ generation }
