use Rattle.std.proofs.Common.{sym, ap, ◌∙◌, subst}
use Rattle.std.specs.Prelude.{All, length, ◌≤◌}
use Rattle.grid_json.specs.Job.{max_workers}
use Rattle.grid_report.specs.Histories.{IsOrder, chosen_order}
use Rattle.grid_configured.specs.Names.{IsConfiguredRequest}
use Rattle.grid_configured.specs.Reports.{history_of, report_after}
use Rattle.grid_cli.specs.Configured.{configured_in, configured_job_text}
use Rattle.grid_cli.proofs.Written.{handing, unbegun}
use Rattle.grid_cli.proofs.configured.ConfiguredJobForm.write.Goals as goal

pub run_in_order-requires : goal.run_in_order-requires
run_in_order-requires g c = record {
  network = c.requires.ready.network;
  plain = subst (All (All IsConfiguredRequest)) (sym c.slice.ensures) c.requires.ready.plain;
  few = subst (λ s. length s ≤ max_workers) (sym c.slice.ensures) c.requires.ready.few;
  order = subst (λ s. IsOrder s (chosen_order s c.args.job.order)) (sym c.slice.ensures) c.requires.ready.ordered;
}

pub returns-clause-written : goal.returns-clause-written
unfolding configured_job_text
returns-clause-written g c =
    let job = c.args.job in
    let text = ap (configured_in c.args.self.now.layout) (c.in_ok-outcome.ensures ∙ ap (λ s. report_after (history_of job.network s (chosen_order s job.order))) c.slice.ensures) in
    handing c.write_outcome.result _ _ _ _ text c.write_outcome.ensures.ok c.write_outcome.ensures.err

pub returns-in_err-outcome-clause-written : goal.returns-in_err-outcome-clause-written
returns-in_err-outcome-clause-written g c = unbegun _ _ _ c.from_residual.ensures.0
