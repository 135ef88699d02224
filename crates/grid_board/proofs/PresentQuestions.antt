-- The present question of a request.
use Rattle.std.proofs.Common.{◌≡◌, ◌≢◌, refl, sym, ap, ◌∙◌, ℕ, true, false, List, Option, Some, None}
use Rattle.std.specs.Prelude.{option_map, option_and_then, MatchOption, IsTrue, Result, Ok, Err, OnOk}
use Rattle.grid_lemmas.proofs.Options.{some_is}
use Rattle.grid_structure.specs.Soundness.{IsSound}
use Rattle.grid_bench.specs.declared.base.BaseLevel.{BaseLevel}
use Rattle.grid_bench.specs.declared.Task.{Task}
use Rattle.grid_bench.specs.Tasks.{computed_of}
use Rattle.grid_requests.specs.declared.request.Request.{Request}
use Rattle.grid_core.specs.Solo.{State}
use Rattle.grid_core.specs.Fitting.{StateFits}
use Rattle.grid_core.specs.History.{History, structure, working}
use Rattle.grid_core.specs.Replies.{state_of}
use Rattle.grid_core.specs.Worlds.{worker_live, worker_state}
use Rattle.grid_core.specs.Verdicts.{IsVerdict}
use Rattle.grid_core.proofs.SoundStates.{state_of-fits}
use Rattle.grid_core.proofs.Lineages.{structure_of_lineage}
use Rattle.grid_board.specs.declared.tasks.Question.{Question}
use Rattle.grid_board.specs.Questions.{base_of, about, asked_of, question_of, question, present, verdict_of}
use Rattle.grid_board.specs.Current.{IsQuestion, IsAsked}
use Rattle.grid_board.proofs.BaseAnswers.{answers}

-- ---- the question

module _ (state : State) (request : Request) (asked : Question) (base : BaseLevel) where
  pub asks_this : asked_of state.structure request ≡ Some asked → base_of state asked.level ≡ Some base → question state request ≡ Some (base, asked.task)
  unfolding question question_of
  asks_this own based = ap (option_and_then (question_of state)) own ∙ ap (option_map (λ (b : BaseLevel). (b, asked.task))) based

  -- where this is the question, it is asked on this base
  pub asks_only : (task : Task) → asked_of state.structure request ≡ Some asked → question state request ≡ Some (base, task) → (base_of state asked.level ≡ Some base) × (asked.task ≡ task)
  unfolding question question_of
  asks_only task own is = by (base_of state asked.level) refl
    where
      by : (o : Option BaseLevel) → base_of state asked.level ≡ o → (base_of state asked.level ≡ Some base) × (asked.task ≡ task)
      by (Some now) based =
          let same : ◌≡◌ {A = Option (BaseLevel × Task)} (Some (now, asked.task)) (Some (base, task)) =
          sym (ap (option_and_then (question_of state)) own ∙ ap (option_map (λ (b : BaseLevel). (b, asked.task))) based) ∙ is in
          let pair = some_is {X = BaseLevel × Task} (now, asked.task) (base, task) same in
          (based ∙ ap (λ (z : BaseLevel × Task). Some z.0) pair, ap (λ (z : BaseLevel × Task). z.1) pair)
      by None based =
          let none : ◌≡◌ {A = Option (BaseLevel × Task)} None (Some (base, task)) = sym (ap (option_and_then (question_of state)) own ∙ ap (option_map (λ (b : BaseLevel). (b, asked.task))) based) ∙ is in
          cc

-- what a value on it makes of the request
pub decided : (state : State) (v : List ℕ) (request : Request) (base : BaseLevel) (task : Task) (level : ℕ) → StateFits state → IsQuestion state request base task level → IsVerdict state v request (verdict_of level (computed_of base task))
decided state v request base task level fits q = answers state v (about task level) base fits q.based request q.asked

-- ---- of a worker

pub present_live : (h : History) (worker : ℕ) (request : Request) → worker_live h worker ≡ true → present h worker request ≡ question (worker_state h worker) request
unfolding present
present_live h worker request live = rw live refl

pub present_dead : (h : History) (worker : ℕ) (request : Request) → worker_live h worker ≡ false → present h worker request ≡ None
unfolding present
present_dead h worker request dead = rw dead refl

-- the structure is that of the state
pub state_structure : (h : History) (worker : ℕ) → worker_live h worker ≡ true → structure h.origin h.steps ≡ (worker_state h worker).structure
unfolding worker_live worker_state state_of
state_structure h worker live = sym (structure_of_lineage h.origin h.steps (working h.steps worker) live)

pub state_fits : (h : History) (worker : ℕ) → IsSound h.origin → StateFits (worker_state h worker)
unfolding worker_state
state_fits h worker sound = state_of-fits h.origin h.steps (working h.steps worker) sound

-- what the state's structure gives
pub state_asked : (h : History) (worker : ℕ) (request : Request) (asked : Question) → worker_live h worker ≡ true → asked_of (structure h.origin h.steps) request ≡ Some asked → asked_of (worker_state h worker).structure request ≡ Some asked
state_asked h worker request asked live is = ap (λ net. asked_of net request) (sym (state_structure h worker live)) ∙ is

-- what the request asks there is what it asks
pub present_asked : (h : History) (worker : ℕ) (request : Request) (own : Option Question) → worker_live h worker ≡ true → own ≡ asked_of (structure h.origin h.steps) request
    → MatchOption own (present h worker request ≡ None) (λ (asked : Question). IsTrue (worker_live h worker) × (asked_of (structure h.origin h.steps) request ≡ Some asked))
unfolding question
present_asked h worker request (Some asked) live is = (live, sym is)
present_asked h worker request None live is =
    present_live h worker request live ∙ ap (option_and_then (question_of (worker_state h worker))) (ap (λ net. asked_of net request) (sym (state_structure h worker live)) ∙ sym is)

pub present_this : (h : History) (worker : ℕ) (request : Request) (asked : Question) (base : BaseLevel) → worker_live h worker ≡ true → asked_of (structure h.origin h.steps) request ≡ Some asked → base_of (worker_state h worker) asked.level ≡ Some base
    → present h worker request ≡ Some (base, asked.task)
present_this h worker request asked base live own based =
    present_live h worker request live ∙ asks_this (worker_state h worker) request asked base (state_asked h worker request asked live own) based

pub present_other : (h : History) (worker : ℕ) (request : Request) (asked : Question) (base : BaseLevel) (task : Task) → worker_live h worker ≡ true → asked_of (structure h.origin h.steps) request ≡ Some asked
    → (asked.task ≡ task → base_of (worker_state h worker) asked.level ≡ Some base → ⊥) → present h worker request ≢ Some (base, task)
present_other h worker request asked base task live own differ is =
    let both = asks_only (worker_state h worker) request asked base task (state_asked h worker request asked live own) (sym (present_live h worker request live) ∙ is) in
    differ both.1 both.0

pub asked_present : (h : History) (worker : ℕ) (request : Request) (base : BaseLevel) (task : Task) (level : ℕ) → IsAsked h worker request base task level → present h worker request ≡ Some (base, task)
asked_present h worker request base task level a = present_live h worker request a.alive ∙ asks_this (worker_state h worker) request (about task level) base a.question.asked a.question.based

-- what is so whatever the answer
pub any_ok : {A E : Type 0} {P : Type 0} (r : Result A E) → P → OnOk r P
any_ok (Ok x) p = p
any_ok (Err e) p = tt
