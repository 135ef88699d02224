-- Where a sweep stands over some of the changes.
use Rattle.std.specs.Prelude.{◌≡◌, ℕ, ◌<◌, Bool, false, not, List, ◌++◌, length, map, filter, reverse, slice_index_or, All}
use Rattle.std.specs.List.{list_any, AllZip}
use Rattle.grid_graph.specs.Graph.{graph, EndsBelow}
use Rattle.grid_unions.specs.Summed.{Weighted, weighted}
use Rattle.grid_unions.specs.Sweep.{is_among, pair_at, kept, IsFitting, IsFoundOf}
use Rattle.grid_unions.specs.declared.summed.Sums.{Sums}
use Rattle.grid_unions.specs.declared.sweeps.Change.{Change}
use Rattle.grid_unions.specs.declared.sweeps.Found.{Found}

-- ---- marks

abbrev pub is_marked : List Bool → ℕ → Bool
is_marked marks place = slice_index_or marks place false

abbrev pub AreClear : List Bool → Type 0
AreClear marks = (place : ℕ) → is_marked marks place ≡ false

-- a place is gone in some change
unfoldable pub is_gone : List Change → ℕ → Bool
is_gone changes place = list_any (λ change. is_among change.gone place) changes

-- ---- pairs

-- with these pairs, joined one after the other
abbrev pub with_joined : Weighted → List (ℕ × ℕ) → Weighted
with_joined classes pairs = weighted (graph classes.net.nodes (reverse pairs ++ classes.net.pairs)) classes.weights

-- two lists have the same pairs, in whatever order, and however often: each test finds one in both or in neither
abbrev pub HaveSame : List (ℕ × ℕ) → List (ℕ × ℕ) → Type 0
HaveSame first second = (test : ℕ × ℕ → Bool) → list_any test first ≡ list_any test second

-- with the pending pairs that a change keeps, the joined ones are all that it keeps
abbrev pub IsReady : List (ℕ × ℕ) → List (ℕ × ℕ) → List ℕ → Change → Type 0
IsReady common joined pending change =
    HaveSame (map (pair_at common) (filter (λ place. not (is_among change.gone place)) pending) ++ joined) (kept common change.gone)

-- what a sweep over these changes needs, where these pairs are joined and these places are pending
pub record CanSweep (common : List (ℕ × ℕ)) (changes : List Change) (classes : Weighted) (pending : List ℕ) : Type 0 where
  pub some : 0 < classes.net.nodes
  pub ends : EndsBelow common classes.net.nodes
  pub fitting : All (IsFitting classes.net.nodes common) changes
  pub below : All (λ place. place < length common) pending
  pub ready : All (IsReady common classes.net.pairs pending) changes

-- ---- what is found

-- what is found of each of these changes was put last
pub record IsMore (weights : List Sums) (common : List (ℕ × ℕ)) (changes : List Change) (old new : List Found) : Type 0 where
  pub last : List Found
  pub more : new ≡ old ++ last
  pub found : AllZip (IsFoundOf weights common) changes last
