use Rattle.std.proofs.Common.{ap, ◌∙◌}
use Rattle.grid_report.specs.Histories.{history_of}
use Rattle.grid_cli.specs.Orders.{order_of}
use Rattle.grid_cli.specs.Hvdc.{numbers_in, hvdc_text}
use Rattle.grid_cli.proofs.Written.{handing, unbegun, whole_or_not}
use Rattle.grid_cli.proofs.Warnings.{warned}
use Rattle.grid_cli.proofs.hvdc.HvdcJobForm.write.Goals as goal

pub returns-clause-written : goal.returns-clause-written
unfolding hvdc_text
returns-clause-written g c =
    let job = c.args.hvdc.job in
    let layout = c.args.self.now.layout in
    let text =
    ap (λ h. numbers_in layout h c.slice.result.now) c.in_ok-world.ensures
    ∙ ap (numbers_in layout (history_of job.network job.scripts (order_of job))) c.slice.ensures
    in
    handing c.write_numbers.result _ _ _ _ text c.write_numbers.ensures.ok c.write_numbers.ensures.err

pub returns-clause-warning : goal.returns-clause-warning
returns-clause-warning g c =
    whole_or_not c.write_numbers.result
    (warned c.args.hvdc.job c.in_ok-world.world c.entries.result.now c.args.warning.now c.put_warning.new.out c.in_ok-put_warning.ensures.ok c.requires.silent c.entries.ensures c.in_ok-world.ensures)

pub returns-in_err-world-clause-written : goal.returns-in_err-world-clause-written
returns-in_err-world-clause-written g c = unbegun _ _ _ c.from_residual.ensures.0

pub returns-in_err-put_warning-clause-written : goal.returns-in_err-put_warning-clause-written
returns-in_err-put_warning-clause-written g c = unbegun _ _ _ c.from_residual-in_err-put_warning.ensures.0
