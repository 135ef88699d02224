use Rattle.std.proofs.Common.{sym, ap, ◌∙◌, length}
use Rattle.grid_core.specs.History.{History}
use Rattle.grid_report.specs.Histories.{history_of}
use Rattle.grid_cli.proofs.running.run_job.Goals as goal

pub outcome-requires : goal.outcome-requires
unfolding history_of
outcome-requires c = c.len.ensures ∙ ap length (sym c.slice.ensures) ∙ sym (ap (λ (h : History). h.workers) c.in_ok-world.ensures)
