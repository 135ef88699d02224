use Rattle.std.proofs.Common.{◌+◌, ◌-◌, ◌++◌, sym, ap, ◌∙◌, append_assoc}
use Rattle.std.specs.List.{flat_map, range_with_len}
use Rattle.grid_report.specs.Outcomes.{numbered, step_text, steps_by, worker_line, worker_text}
use Rattle.grid_report.proofs.RemainingText.{range_next}
use Rattle.grid_report.proofs.cursors.Workers.next.Goals as goal

pub returns : goal.returns
unfolding worker_text
returns c =
    let i = c.self.inside in
    sym c.self.view_is
    ∙ ap (λ l. l ++ flat_map (worker_text i.journal.now) (range_with_len i.next (i.workers - i.next))) c.in_default.ensures.0
    ∙ range_next (worker_text i.journal.now) i.next i.workers c.if-self.false
    ∙ append_assoc (worker_line i.next) (numbered step_text 1 (steps_by i.next i.journal.now)) (flat_map (worker_text i.journal.now) (range_with_len (i.next + 1) (i.workers - (i.next + 1))))
    ∙ ap (λ l. worker_line i.next ++ (l ++ flat_map (worker_text i.journal.now) (range_with_len (i.next + 1) (i.workers - (i.next + 1))))) (sym c.of-self-inside.ensures)
