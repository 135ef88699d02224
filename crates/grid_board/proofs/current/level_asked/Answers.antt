use Rattle.std.proofs.Common.{◌≡◌, sym, ap, ◌∙◌, Some}
use Rattle.grid_bench.specs.declared.Task.{Task}
use Rattle.grid_board.specs.Questions.{about}
use Rattle.grid_board.proofs.PresentQuestions.{state_fits, state_asked, present_other}
use Rattle.grid_board.proofs.current.level_asked.Goals as goal
use Rattle.grid_board.proofs.current.level_asked.Goals.{else-same-via-then-same+else-is_base_of, else-same-via-else-same}

pub returns-then-is_base_of : goal.returns-then-is_base_of
returns-then-is_base_of c =
    let h = c.args.world.now in
    let asked = c.in_ok-asked.asked in
    let own = c.in_ok-asked.ensures.asked in
    let task : asked.task ≡ c.args.answer.now.task = c.same.ensures.0 c.if-same.true ∙ c.task.ensures in
    record {
      alive = own.0;
      fits = state_fits h c.args.worker c.keeps.ensures.origin;
      question = record {
        asked = state_asked h c.args.worker c.args.request.now asked own.0 own.1 ∙ ap (λ (t : Task). Some (about t asked.level)) task;
        based = c.is_base_of.ensures.0 c.if-is_base_of.true ∙ ap (λ b. Some b) (c.part-part.ensures.level ∙ c.base.ensures);
      };
    }

pub returns-else-same : goal.returns-else-same
returns-else-same c =
    present_other c.args.world.now c.args.worker c.args.request.now c.in_ok-asked.asked c.args.answer.now.base c.args.answer.now.task c.in_ok-asked.ensures.asked.0 c.in_ok-asked.ensures.asked.1
    (λ tasked based. elim c.else-same.branch [
      | else-same-via-then-same+else-is_base_of w ↦ cc (w.is_base_of.ensures.1 (based ∙ ap (λ b. Some b) (sym (c.part-part.ensures.level ∙ c.base.ensures))), w.if-is_base_of.false)
      | else-same-via-else-same w ↦ cc (c.same.ensures.1 (tasked ∙ sym c.task.ensures), w.if-same.false)
    ])

pub is_base_of-requires-clause-known : goal.is_base_of-requires-clause-known
is_base_of-requires-clause-known c = λ t. c.requires.known t c.in_ok-asked.asked c.in_ok-asked.ensures.asked.1 ∙ ap (λ b. Some b.level) (sym (c.part-part.ensures.level ∙ c.base.ensures))
