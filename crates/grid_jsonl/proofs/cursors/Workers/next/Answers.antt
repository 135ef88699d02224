use Rattle.std.proofs.Common.{map, [], refl, sym, ap, ◌∙◌}
use Rattle.grid_jsonl.specs.Borrowed.{step_in}
use Rattle.grid_jsonl.specs.Outcomes.{steps_by}
use Rattle.grid_jsonl.specs.Lines.{line_object, texts}
use Rattle.grid_jsonl.proofs.RemainingLines.{workers_for, command_next, worker_next, workers_over}
use Rattle.grid_jsonl.proofs.cursors.Workers.next.Goals as goal

pub returns-in-Some : goal.returns-in-Some
unfolding line_object
returns-in-Some c =
    let i = c.loop-step.self-inside in
    sym c.loop-step.invariant
    ∙ ap texts (command_next i.worker (map step_in i.rest.now) (map step_in c.next_step.new.steps.now) (map step_in i.steps.now) (step_in c.in-Some.step) i.next i.workers c.in-Some.ensures)

pub returns-then-self : goal.returns-then-self
unfolding steps_by
returns-then-self c =
    let i = c.loop-step.self-inside in (
      sym c.loop-step.invariant ∙ ap texts (workers_over i.worker (map step_in i.rest.now) (map step_in i.steps.now) i.next i.workers c.in_default.ensures.0 c.if-self.true),
      ap (λ l. texts (workers_for (map step_in l) i.worker (map step_in i.steps.now) i.next i.workers)) c.in_default.ensures.1
          ∙ ap texts (workers_over i.worker [] (map step_in i.steps.now) i.next i.workers refl c.if-self.true),
    )

pub loop-step-preserved : goal.loop-step-preserved
loop-step-preserved c =
    let i = c.loop-step.self-inside in
    ap texts (sym (worker_next i.worker (map step_in i.rest.now) (map step_in i.steps.now) i.next i.workers c.in_default.ensures.0 c.if-self.false)) ∙ c.loop-step.invariant
