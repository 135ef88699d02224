-- The count of edits, after each step.
use Rattle.std.proofs.Common.{◌≡◌, ◌≢◌, sym, ap, ◌∙◌, ℕ, ◌+◌}
use Rattle.std.specs.Prelude.{Result, Ok, Err, OnOk, OnErr}
use Rattle.grid_structure.specs.declared.Edit.{Edit}
use Rattle.grid_structure.specs.Network.{Network}
use Rattle.grid_bench.specs.declared.base.BaseLevel.{BaseLevel}
use Rattle.grid_bench.specs.declared.Task.{Task}
use Rattle.grid_requests.specs.declared.request.Request.{Request}
use Rattle.grid_requests.specs.declared.request.Request.TheVariants as requests
use Rattle.grid_core.specs.History.{History, Command, command, longer}
use Rattle.grid_core.specs.Worlds.{begun, worker_state}
use Rattle.grid_board.specs.Boards.{IsBoard}
use Rattle.grid_board.specs.Current.{IsAsked}
use Rattle.grid_board.specs.Edits.{edits_asked}
use Rattle.grid_board.specs.Questions.{about}
use Rattle.grid_board.proofs.UnchangedStructures.{asking_is_no_edit}
use Rattle.grid_board.proofs.Edits.{edits_of_none, edits_of_edit, edits_of_other}

-- at first
pub board_begun : (world : History) (origin : Network) (workers : ℕ) → world ≡ begun origin workers → IsBoard world 0
board_begun world origin workers made = sym (ap (λ (h : History). edits_asked h.steps) made ∙ edits_of_none)

pub board_same : (old new : History) (edits : ℕ) → new ≡ old → IsBoard old edits → IsBoard new edits
board_same old new edits same before = before ∙ ap (λ (h : History). edits_asked h.steps) (sym same)

-- after a step by a request that is an edit
pub board_edited : (old new : History) (edits : ℕ) (step : Command) (edit : Edit) → step.request ≡ requests.Change edit → new ≡ longer old step → IsBoard old edits → IsBoard new (edits + 1)
board_edited old new edits step edit is longer_by before =
    ap (λ n. n + 1) before ∙ sym (edits_of_edit step old.steps edit is) ∙ ap (λ (h : History). edits_asked h.steps) (sym longer_by)

-- after one by another request
pub board_stepped : (old new : History) (edits : ℕ) (step : Command) → ((edit : Edit) → step.request ≢ requests.Change edit) → new ≡ longer old step → IsBoard old edits → IsBoard new edits
board_stepped old new edits step apart longer_by before =
    before ∙ sym (edits_of_other step old.steps apart) ∙ ap (λ (h : History). edits_asked h.steps) (sym longer_by)

-- after a step of a request that has a task
pub board_asked : {A E : Type 0} (r : Result A E) (old new : History) (edits worker : ℕ) (request : Request) (base : BaseLevel) (task : Task) (level : ℕ) → IsAsked old worker request base task level
    → OnOk r (new ≡ longer old (command worker request)) → OnErr r (new ≡ old) → IsBoard old edits → IsBoard new edits
board_asked (Ok x) old new edits worker request base task level asked ok err before =
    let apart = asking_is_no_edit (worker_state old worker).structure request (about task level) asked.question.asked in
    board_stepped old new edits (command worker request) apart ok before
board_asked (Err e) old new edits worker request base task level asked ok err before = board_same old new edits err before
