-- What a caller keeps of the history at which it asked.
use Rattle.std.specs.Prelude.{◌≡◌, ℕ, Some, []}
use Rattle.atomic_table.specs.Seated.{TableId}
use Rattle.grid_bench.specs.declared.base.BaseLevel.{BaseLevel}
use Rattle.grid_bench.specs.declared.Task.{Task}
use Rattle.grid_board.specs.Edits.{edits_asked}
use Rattle.grid_board.specs.Questions.{present}
use Rattle.grid_requests.specs.declared.request.Request.{Request}
use Rattle.grid_core.specs.History.{History}
use Rattle.grid_manager.specs.declared.question.Witness.{Witness}
use Rattle.grid_manager.specs.Views.{caller}

-- the history that a witness has seen
abbrev pub history_at : Witness → History
history_at witness = witness.token.me.0.own.seen

-- a token of this table, whose history had this base and this task for the request, and so many edits
pub record IsWitness (table : TableId) (number : ℕ) (request : Request) (base : BaseLevel) (task : Task) (witness : Witness) : Type 0 where
  pub table_is : witness.token.table_id ≡ table
  pub knows : witness.token.me ≡ (caller witness.token.me.0.own, [])
  pub asked : present (history_at witness) number request ≡ Some (base, task)
  pub counted : witness.edits ≡ edits_asked (history_at witness).steps
