-- What a run of scripts leaves.
use Rattle.std.specs.Prelude.{◌≡◌, ℕ, ◌<◌, Bool, true, false, List, [], length, reverse, slice_get, unwrap_or}
use mathlib.Core.List.{IsPrefix}
use Rattle.grid_structure.specs.Network.{Network}
use Rattle.grid_requests.specs.declared.request.Request.{Request}
use Rattle.grid_core.specs.History.{History, IsHistory, asked_by}

-- a worker's script; a worker beyond the scripts has none
abbrev pub script_at : List (List Request) → ℕ → List Request
script_at scripts worker = unwrap_or (slice_get scripts worker) []

-- a history over this structure, of as many workers as there are scripts, in which each worker asked the first commands of its
-- script, and all of them where the run is not short; else some worker has commands left
pub record IsRun (structure : Network) (scripts : List (List Request)) (history : History) (short : Bool) : Type 0 where
  pub origin : history.origin ≡ structure
  pub workers : history.workers ≡ length scripts
  pub steps : IsHistory history
  pub fronts : (worker : ℕ) → IsPrefix (reverse (asked_by worker history.steps)) (script_at scripts worker)
  pub whole : short ≡ false → (worker : ℕ) → reverse (asked_by worker history.steps) ≡ script_at scripts worker
  pub left : short ≡ true → (worker : ℕ) × (length (asked_by worker history.steps) < length (script_at scripts worker))
