-- How many edits were asked for: while the count stays, the structure does.
use Rattle.std.specs.Prelude.{◌≡◌, ℕ, Bool, true, false, Some, List, count_by, slice_get}
use Rattle.grid_structure.specs.Network.{Network}
use Rattle.grid_structure.specs.Sites.{levels}
use Rattle.grid_bench.specs.declared.base.BaseLevel.{BaseLevel}
use Rattle.grid_bench.specs.declared.Task.{Task}
use Rattle.grid_requests.specs.declared.request.Request.{Request}
use Rattle.grid_requests.specs.declared.request.Request.TheVariants as requests
use Rattle.grid_core.specs.History.{History, Command, IsPrefix}
use Rattle.grid_board.specs.declared.tasks.Question.{Question}
use Rattle.grid_board.specs.Questions.{asked_of, present}

unfoldable pub is_edit : Request → Bool
is_edit (requests.Change edit) = true
is_edit other = false

-- refused ones too
unfoldable pub edits_asked : List Command → ℕ
edits_asked steps = count_by (λ step. is_edit step.request) steps

-- the base and the task were those of the request when the history was shorter, and so many edits were asked for
pub record WasPresent (history : History) (worker : ℕ) (request : Request) (base : BaseLevel) (task : Task) (edits : ℕ) : Type 0 where
  pub before : History
  pub front : IsPrefix before history
  pub asked : present before worker request ≡ Some (base, task)
  pub counted : edits_asked before.steps ≡ edits

-- the base's level as recorded is the one of this structure of which the request asks
abbrev pub IsTakenFor : Network → Request → BaseLevel → Type 0
IsTakenFor net request base = (asked : Question) → asked_of net request ≡ Some asked → slice_get (levels net) asked.level ≡ Some base.level
