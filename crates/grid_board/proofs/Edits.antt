-- While no edit is asked for, the structure stays, and with it the levels of a base.
use Rattle.std.proofs.Common.{◌≡◌, ◌≢◌, refl, sym, ap, ◌∙◌, ℕ, ◌+◌, ◌≤◌, arith, Bool, true, false, cond, List, [], ◌∷◌, ◌++◌, length, Option, Some, None}
use Rattle.std.specs.Prelude.{slice_get}
use Rattle.std.proofs.lemmas.Bool.{false≢true}
use Rattle.std.proofs.lemmas.List.Sums.{count_by-le-length, sum_by-cons}
use Rattle.grid_structure.specs.declared.Edit.{Edit}
use Rattle.grid_structure.specs.Network.{Network}
use Rattle.grid_structure.specs.Sites.{levels}
use Rattle.grid_bench.specs.declared.base.BaseLevel.{BaseLevel}
use Rattle.grid_bench.specs.declared.Task.{Task}
use Rattle.grid_requests.specs.declared.request.Request.{Request}
use Rattle.grid_requests.specs.declared.request.Request.TheVariants as requests
use Rattle.grid_core.specs.History.{History, Command, structure, working}
use Rattle.grid_requests.specs.Changes.{structure_after}
use Rattle.grid_core.specs.Replies.{state_of}
use Rattle.grid_core.specs.Worlds.{worker_live, worker_state}
use Rattle.grid_core.proofs.Lineages.{structure_of_lineage}
use Rattle.grid_board.specs.Edits.{is_edit, edits_asked, WasPresent, IsTakenFor}
use Rattle.grid_board.specs.Questions.{part_with, part_of, asked_of}
use Rattle.grid_board.proofs.BaseLevels.{level_of_base}
use Rattle.grid_board.proofs.UnchangedStructures.{no_edit_stays}
use Rattle.grid_board.proofs.PresentQuestions.{present_live, present_dead, asks_only}

-- ---- counting

-- one step more
pub edits_more : (step : Command) (steps : List Command) → edits_asked (step ∷ steps) ≡ cond (is_edit step.request) 1 0 + edits_asked steps
unfolding edits_asked
edits_more step steps = sum_by-cons (λ (s : Command). cond (is_edit s.request) 1 0) step steps

pub edits_within : (steps : List Command) → edits_asked steps ≤ length steps
unfolding edits_asked
edits_within steps = count_by-le-length (λ (s : Command). is_edit s.request) steps

edits_grow : (more steps : List Command) → edits_asked steps ≤ edits_asked (more ++ steps)
edits_grow [] steps = omega arith
edits_grow (step ∷ more) steps = let again = edits_grow more steps in let here = edits_more step (more ++ steps) in omega (arith, here)

no_edit : (request : Request) → is_edit request ≡ false → (edit : Edit) → request ≢ requests.Change edit
unfolding is_edit
no_edit request off edit is = false≢true (sym off ∙ ap is_edit is)

-- ---- the structure

pub same_structure : (origin : Network) (more steps : List Command) → edits_asked (more ++ steps) ≡ edits_asked steps → structure origin (more ++ steps) ≡ structure origin steps
unfolding structure
same_structure origin [] steps same = refl
same_structure origin (step ∷ more) steps same = by (is_edit step.request) refl (λ even. same_structure origin more steps even)
  where
    by : (b : Bool) → is_edit step.request ≡ b → (edits_asked (more ++ steps) ≡ edits_asked steps → structure origin (more ++ steps) ≡ structure origin steps) → structure_after (structure origin (more ++ steps)) step.request ≡ structure origin steps
    by true is again =
        let grown = edits_grow more steps in
        let here : edits_asked (step ∷ more ++ steps) ≡ 1 + edits_asked (more ++ steps) = edits_more step (more ++ steps) ∙ ap (λ b. cond b 1 0 + edits_asked (more ++ steps)) is in
        absurd (omega (arith, grown, here, same))
    by false is again =
        let here : edits_asked (step ∷ more ++ steps) ≡ 0 + edits_asked (more ++ steps) = edits_more step (more ++ steps) ∙ ap (λ b. cond b 1 0 + edits_asked (more ++ steps)) is in
        no_edit_stays (structure origin (more ++ steps)) step.request (no_edit step.request is) ∙ again (omega (arith, here, same))

-- ---- the level of a base

pub still_taken : (history : History) (worker : ℕ) (request : Request) (base : BaseLevel) (task : Task) (edits : ℕ) → WasPresent history worker request base task edits → edits ≡ edits_asked history.steps
    → IsTakenFor (structure history.origin history.steps) request base
unfolding worker_state state_of worker_live part_of part_with
still_taken history worker request base task edits was same asked own = by (worker_live was.before worker) refl
  where
    H : History
    H = was.before

    stays : structure H.origin H.steps ≡ structure history.origin history.steps
    stays =
        let more = was.front.steps.0 in
        let is : history.steps ≡ more ++ H.steps = was.front.steps.1 in
        sym (same_structure H.origin more H.steps (ap edits_asked (sym is) ∙ sym same ∙ sym was.counted))
        ∙ ap (λ steps. structure H.origin steps) (sym is) ∙ ap (λ origin. structure origin history.steps) was.front.origin

    by : (b : Bool) → worker_live H worker ≡ b → slice_get (levels (structure history.origin history.steps)) asked.level ≡ Some base.level
    by true live =
        let state = worker_state H worker in
        let there : state.structure ≡ structure history.origin history.steps = structure_of_lineage H.origin H.steps (working H.steps worker) live ∙ stays in
        let both = asks_only state request asked base task (ap (λ net. asked_of net request) there ∙ own) (sym (present_live H worker request live) ∙ was.asked) in
        let of = level_of_base state asked.level base both.0 in
        ap (λ net. slice_get (levels net) asked.level) (sym there) ∙ of.1.0 ∙ ap (λ (b : BaseLevel). Some b.level) of.1.1
    by false dead = let none : ◌≡◌ {A = Option (BaseLevel × Task)} None (Some (base, task)) = sym (present_dead H worker request dead) ∙ was.asked in cc

-- ---- what a board keeps

pub edits_of_none : edits_asked [] ≡ 0
unfolding edits_asked
edits_of_none = refl

pub edits_of_edit : (step : Command) (steps : List Command) (edit : Edit) → step.request ≡ requests.Change edit → edits_asked (step ∷ steps) ≡ edits_asked steps + 1
unfolding is_edit
edits_of_edit step steps edit is = edits_more step steps ∙ ap (λ r. cond (is_edit r) 1 0 + edits_asked steps) is ∙ omega arith

edits_of_other_at : (request : Request) → ((edit : Edit) → request ≢ requests.Change edit) → is_edit request ≡ false
unfolding is_edit
edits_of_other_at (requests.Change edit) apart = absurd (apart edit refl)
edits_of_other_at other apart = refl

pub edits_of_other : (step : Command) (steps : List Command) → ((edit : Edit) → step.request ≢ requests.Change edit) → edits_asked (step ∷ steps) ≡ edits_asked steps
edits_of_other step steps apart = edits_more step steps ∙ ap (λ b. cond b 1 0 + edits_asked steps) (edits_of_other_at step.request apart) ∙ omega arith
